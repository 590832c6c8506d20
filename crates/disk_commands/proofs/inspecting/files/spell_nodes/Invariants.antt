use Rattle.std.proofs.Common.{take}
use Rattle.std.specs.List.{flat_map}
use Rattle.std.specs.Io.KnownBytes.{Appends}
use Rattle.disk_commands.specs.rules.Inspectings.{node_line}
use Rattle.disk_commands.proofs.inspecting.files.spell_nodes.Given as goal

-- the first nodes are spelled
abbrev pub invariant-loop-node : goal.invariant-loop-node
invariant-loop-node g l = Appends (g.W.Write.contents l.fn.out) (g.W.Write.contents l.out)
    (flat_map node_line (take l.node-index l.nodes))
