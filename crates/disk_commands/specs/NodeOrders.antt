-- The order in which the nodes of a tree are made.
use Rattle.std.specs.Prelude.{◌≡◌, List, ◌∷◌, ◌++◌}
use Rattle.file_listing.specs.declared.listed.ListedNode.{ListedNode}
use Rattle.file_listing.specs.rules.Listed.{IsPlacedAmong}

-- Before each node is its directory, or it lies in the root, which isn't listed.
pub record ParentsComeFirst (nodes : List ListedNode) : Type 0 where
  pub at : (before after : List ListedNode) (node : ListedNode) → nodes ≡ before ++ node ∷ after
      → IsPlacedAmong before node.path
