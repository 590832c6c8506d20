use Rattle.std.proofs.Common.{◌≡◌, map, drop}
use Rattle.state_image.specs.restoring.SavedNodes.{lent_whole, listed_node}
use Rattle.state_image.proofs.restoring.hanging.listed_node.Given as goal

abbrev pub invariant-loop-node : goal.invariant-loop-node
invariant-loop-node l = listed_node (map lent_whole l.fn.nodes) l.fn.number
    ≡ listed_node (map lent_whole (drop l.node-index l.fn.nodes)) l.fn.number
