use Rattle.std.proofs.Common.{ℕ, ◌∙◌, ◌-◌, arith}
use Rattle.std.specs.Prelude.{replicate}
use Rattle.std.proofs.lemmas.List.{length-replicate}
use Rattle.file_tree.specs.declared.limits.TheConstants.{CHUNK_BYTES}
use Rattle.file_tree.proofs.StoreLemmas.Overs.{over_end}
use Rattle.file_tree.proofs.store.chunks.Chunk.clear.Goals as goal

pub returns : goal.returns
returns c = c.put_zeros.ensures.put
    ∙ over_end c.args.self.now c.args.from (replicate (CHUNK_BYTES - c.args.from) 0) (omega (
      arith,
      c.requires,
      c.put_zeros.ensures.full,
      length-replicate {A = ℕ} (CHUNK_BYTES - c.args.from) 0,
    ))
