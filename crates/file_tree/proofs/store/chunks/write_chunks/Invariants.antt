use Rattle.std.proofs.Common.{◌≡◌, ◌≤◌, ◌-◌, length, take}
use Rattle.std.specs.List.{concat}
use Rattle.file_tree.specs.Store.Bodies.{AreFullAt, Rekeys}
use Rattle.file_tree.specs.Store.Chunked.{overlaid}
use Rattle.file_tree.specs.Store.Stored.{stored}
use Rattle.file_tree.proofs.store.chunks.write_chunks.Given as goal

abbrev pub invariant-loop-done : goal.invariant-loop-done
invariant-loop-done l =
    (l.done ≤ length l.bytes) × AreFullAt l.chunks l.keys
    × (concat (stored l.chunks l.keys)
    ≡ overlaid (concat (stored l.initial.chunks l.keys)) l.from (take l.done l.bytes))
    × Rekeys l.initial.chunks l.chunks l.keys l.keys

abbrev pub decreases-loop-done : goal.decreases-loop-done
decreases-loop-done l = length l.bytes - l.done
