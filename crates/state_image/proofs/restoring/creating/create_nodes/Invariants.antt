use Rattle.std.proofs.Common.{map, take}
use Rattle.state_image.specs.restoring.SavedNodes.{lent_whole, IsMadeOf}
use Rattle.state_image.proofs.restoring.creating.create_nodes.Given as goal

abbrev pub invariant-loop-place : goal.invariant-loop-place
invariant-loop-place l = IsMadeOf (take l.place (map lent_whole l.fn.nodes)) l.tree
