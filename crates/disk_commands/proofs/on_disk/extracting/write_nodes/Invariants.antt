use Rattle.std.proofs.Common.{◌≡◌, ℕ, ◌<◌, take, vec_len, vec_capacity}
use Rattle.std.specs.Prelude.{slice_index_or}
use Rattle.file_listing.specs.declared.listed.ListedNode.{ListedNode}
use Rattle.disk_commands.specs.MadeNodes.{AreMadeFor, HaveMade}
use Rattle.disk_commands.specs.rules.ExtractedTrees.{IsMadeBelow}
use Rattle.disk_commands.proofs.on_disk.extracting.write_nodes.Given as goal

-- the first nodes are made and remembered, and nothing is said
abbrev pub invariant-loop-node : goal.invariant-loop-node
invariant-loop-node g l = ((k : ℕ) (d : ListedNode) → k < l.node-index
    → IsMadeBelow (g.R.NewTrees.trees l.files) l.new.path.now l.new.tree.now
    (slice_index_or l.nodes k d))
    × (l.err ≡ l.fn.err)
    × AreMadeFor l.new.path.now (take l.node-index l.nodes) l.made.items
    × HaveMade (g.R.NewTrees.trees l.files) l.made.items
    × (vec_len l.made ≡ l.node-index) × (vec_capacity l.made ≡ vec_capacity l.fn.made)
