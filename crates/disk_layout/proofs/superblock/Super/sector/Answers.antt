use Rattle.std.proofs.Common.{rules}
use Rattle.disk_layout.proofs.FieldLemmas.{super_laid}
use Rattle.disk_layout.proofs.superblock.Super.sector.Goals as goal

pub returns : goal.returns
returns c =
    let s = c.args.self.now in
    super_laid s.geometry s.digest c.put.new.bytes c.put_u32.new.bytes c.put_u32-2.new.bytes
    c.put_u32-3.new.bytes c.put_u32-4.new.bytes c.put_u32-5.new.bytes c.put_u32-6.new.bytes
    c.put-2.new.bytes c.put-3.new.bytes (search rules)
    c.put.ensures c.put_u32.ensures c.put_u32-2.ensures c.put_u32-3.ensures c.put_u32-4.ensures
    c.put_u32-5.ensures c.put_u32-6.ensures c.put-2.ensures c.put-3.ensures
