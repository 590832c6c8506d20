use Rattle.std.proofs.Common.{length}
use Rattle.disk_commands.proofs.ClearedLemmas.{HasCleared}
use Rattle.disk_commands.proofs.on_disk.clearing.clear_nodes.Given as goal

-- the last ones are removed, or named
abbrev pub invariant-loop-node : goal.invariant-loop-node
invariant-loop-node g l = HasCleared (g.R.NewTrees.trees l.files) l.fn.made.items l.made.items
    l.fn.err l.fn.status l.status l.err

abbrev pub decreases-loop-node : goal.decreases-loop-node
decreases-loop-node g l = length l.made.items
