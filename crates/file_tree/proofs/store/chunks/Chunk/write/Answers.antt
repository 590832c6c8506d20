use Rattle.std.proofs.Common.{◌∙◌, ◌+◌, refl, arith, length}
use Rattle.file_tree.proofs.StoreLemmas.Overs.{over_at}
use Rattle.file_tree.proofs.store.chunks.Chunk.write.Goals as goal

pub returns : goal.returns
returns c = c.put.ensures.put
    ∙ over_at c.args.self.now c.args.from c.args.bytes.now (c.args.from
    + length c.args.bytes.now) refl (omega (arith, c.requires, c.put.ensures.full))
