use Rattle.std.proofs.Common.{ℕ, ◌≡◌}
use Rattle.std.specs.Prelude.{replicate}
use Rattle.file_tree.specs.declared.limits.TheConstants.{CHUNK_BYTES}
use Rattle.file_tree.proofs.store.chunks.zero_chunks.Given as goal

abbrev pub invariant-loop : goal.invariant-loop
invariant-loop l = l.chunks.items ≡ replicate l.counter (replicate {A = ℕ} CHUNK_BYTES 0)
