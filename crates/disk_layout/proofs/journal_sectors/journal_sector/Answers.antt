use Rattle.disk_layout.proofs.JournalLemmas.{sector_laid}
use Rattle.disk_layout.proofs.journal_sectors.journal_sector.Goals as goal

pub returns : goal.returns
returns c = sector_laid c.args.generation c.args.place c.args.payload.now c.put_u16.new.bytes
    c.put.new.bytes c.put_u64.new.bytes c.put_u64-2.new.bytes c.requires c.put_u16.ensures
    c.put.ensures c.put_u64.ensures c.put_u64-2.ensures
