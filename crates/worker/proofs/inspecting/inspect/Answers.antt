use Rattle.worker.proofs.InspectionLemmas.{failed_sync_inspects, synced_inspects}
use Rattle.worker.proofs.inspecting.inspect.Goals as goal

pub returns-in-Err : goal.returns-in-Err
returns-in-Err g c =
    failed_sync_inspects (g.D.Disk.medium c.args.disk.now) (g.D.Disk.medium c.sync.new.self)
    c.in-Err.fault c.from.result c.in-Err.ensures c.from.ensures

pub returns : goal.returns
returns g c =
    let looks = c.look_into.ensures in
    synced_inspects (g.D.Disk.medium c.args.disk.now) (g.D.Disk.medium c.sync.new.self)
    (g.D.Disk.medium c.look_into.new.disk) c.in_default.field-0 c.in_default.ensures looks.reads
    looks.asks c.look_into.result looks.cause looks.tells
