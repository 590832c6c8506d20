use Rattle.sector_disk.specs.laws.Pending.{torn_crashed, torn_by_some}
use Rattle.sector_disk.proofs.memory.MemDisk.cut.Goals as goal

pub returns-in_err-image-clause-crash_image : goal.returns-in_err-image-clause-crash_image
returns-in_err-image-clause-crash_image c =
    torn_crashed c.args.tears.now c.args.self.now.pending.items c.args.self.now.durable.items

pub returns-in_err-image-clause-every : goal.returns-in_err-image-clause-every
returns-in_err-image-clause-every c =
    torn_by_some c.args.self.now.pending.items c.args.self.now.durable.items

pub returns-clause-every : goal.returns-clause-every
returns-clause-every c = torn_by_some c.args.self.now.pending.items c.args.self.now.durable.items

pub returns-clause-crash_image : goal.returns-clause-crash_image
returns-clause-crash_image c =
    torn_crashed c.args.tears.now c.args.self.now.pending.items c.args.self.now.durable.items
