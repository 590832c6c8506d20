use Rattle.std.proofs.Common.{◌≡◌, ◌-◌, ◌^◌, map}
use Rattle.state_image.specs.restoring.SavedNodes.{lent_whole}
use Rattle.state_image.specs.restoring.Hanging.{HangsUpTo}
use Rattle.state_image.proofs.restoring.hanging.hang_all.Given as goal

abbrev pub invariant-loop-done : goal.invariant-loop-done
invariant-loop-done l =
    HangsUpTo (map lent_whole l.fn.nodes) l.tree l.waiting.items l.done 0
    × (l.tree.next ≡ l.fn.tree.next)

abbrev pub decreases-loop-done : goal.decreases-loop-done
decreases-loop-done l = 2 ^ 64 - l.done
