use Rattle.std.proofs.Common.{◌≢◌, ℕ, ◌<◌}
use Rattle.std.specs.Prelude.{slice_index_or}
use Rattle.file_listing.specs.declared.listed.ListedNode.{ListedNode}
use Rattle.file_listing.proofs.reading.find_path.Given as goal

abbrev pub invariant-loop-node : goal.invariant-loop-node
invariant-loop-node l = (k : ℕ) (d : ListedNode) → k < l.node-index
    → (let node : ListedNode = slice_index_or l.nodes k d in node.path ≢ l.path)
