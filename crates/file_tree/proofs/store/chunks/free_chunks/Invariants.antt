use Rattle.std.proofs.Common.{◌≡◌, ◌≤◌, length, take}
use Rattle.file_tree.specs.Store.Bodies.{AreFullAt, Rekeys}
use Rattle.file_tree.specs.Store.Stored.{stored}
use Rattle.file_tree.proofs.store.chunks.free_chunks.Given as goal

abbrev pub invariant-loop-chunks : goal.invariant-loop-chunks
invariant-loop-chunks l =
    (l.count ≤ length l.keys.items) × (length l.keys.items ≤ length l.initial.keys.items)
    × AreFullAt l.chunks l.keys.items
    × (stored l.chunks l.keys.items
    ≡ take (length l.keys.items) (stored l.initial.chunks l.initial.keys.items))
    × Rekeys l.initial.chunks l.chunks l.initial.keys.items l.keys.items

abbrev pub decreases-loop-chunks : goal.decreases-loop-chunks
decreases-loop-chunks l = length l.keys.items
