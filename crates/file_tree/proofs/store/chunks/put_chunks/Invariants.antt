use Rattle.std.proofs.Common.{◌≡◌, ◌+◌, ◌-◌, ◌≤◌, ◌++◌, length, ℕ}
use Rattle.std.specs.Prelude.{replicate}
use Rattle.std.specs.Vec.{vec_len, vec_capacity}
use Rattle.slab.specs.Slab.{HasRoomFor}
use Rattle.file_tree.specs.declared.limits.TheConstants.{CHUNK_BYTES}
use Rattle.file_tree.specs.Store.Bodies.{AreFullAt, Rekeys}
use Rattle.file_tree.specs.Store.Stored.{stored}
use Rattle.file_tree.proofs.store.chunks.put_chunks.Given as goal

abbrev pub invariant-loop-chunk : goal.invariant-loop-chunk
invariant-loop-chunk l =
    (l.zeros.items ≡ replicate (length l.zeros.items) (replicate {A = ℕ} CHUNK_BYTES 0))
    × (length l.zeros.items ≤ length l.initial.zeros.items)
    × AreFullAt l.chunks l.keys.items
    × (stored l.chunks l.keys.items
    ≡ stored l.initial.chunks l.initial.keys.items
    ++ replicate (length l.initial.zeros.items - length l.zeros.items)
    (replicate {A = ℕ} CHUNK_BYTES 0))
    × Rekeys l.initial.chunks l.chunks l.initial.keys.items l.keys.items
    × HasRoomFor l.chunks (length l.zeros.items)
    × (vec_len l.keys + length l.zeros.items ≤ vec_capacity l.keys)

abbrev pub decreases-loop-chunk : goal.decreases-loop-chunk
decreases-loop-chunk l = length l.zeros.items
