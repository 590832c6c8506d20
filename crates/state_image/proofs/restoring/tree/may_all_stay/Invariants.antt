use Rattle.std.proofs.Common.{take}
use Rattle.state_image.specs.restoring.SavedNodes.{MayAllStay}
use Rattle.state_image.proofs.restoring.tree.may_all_stay.Given as goal

abbrev pub invariant-loop-place : goal.invariant-loop-place
invariant-loop-place l = MayAllStay l.tree (take l.place l.nodes)
