use Rattle.std.proofs.Common.{rules}
use Rattle.disk_layout.proofs.FieldLemmas.{head_laid}
use Rattle.disk_layout.proofs.head.Head.sector.Goals as goal

pub returns : goal.returns
returns c =
    let s = c.args.self.now in
    head_laid s.version s.length_in_bytes s.generation s.digest c.put.new.bytes c.put_u32.new.bytes
    c.put_u64.new.bytes c.put_u64-2.new.bytes c.put_u64-3.new.bytes c.put-2.new.bytes
    (search rules) c.put.ensures c.put_u32.ensures c.put_u64.ensures c.put_u64-2.ensures
    c.put_u64-3.ensures c.put-2.ensures
