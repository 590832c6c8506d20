use Rattle.std.proofs.Common.{◌≡◌, ◌≤◌, ◌-◌, length, take, drop}
use Rattle.std.specs.List.{concat}
use Rattle.file_tree.specs.Store.Stored.{stored}
use Rattle.file_tree.proofs.store.chunks.read_chunks.Given as goal

abbrev pub invariant-loop-done : goal.invariant-loop-done
invariant-loop-done l =
    (l.done ≤ length l.initial.into)
    × (take l.done l.into ≡ take l.done (drop l.from (concat (stored l.chunks l.keys))))

abbrev pub decreases-loop-done : goal.decreases-loop-done
decreases-loop-done l = length l.initial.into - l.done
