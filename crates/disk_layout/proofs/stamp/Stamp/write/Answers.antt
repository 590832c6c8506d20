use Rattle.disk_layout.proofs.FieldLemmas.{stamp_laid}
use Rattle.disk_layout.proofs.stamp.Stamp.write.Goals as goal

pub returns : goal.returns
returns c = stamp_laid _ _ c.args.sector.now c.put_u64.new.bytes c.put_u64-2.new.bytes c.told-sector
    c.put_u64.ensures c.put_u64-2.ensures
