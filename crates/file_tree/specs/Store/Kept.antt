-- How nodes are kept in a slab.
use Rattle.std.specs.Prelude.{ℕ, ◌<◌, ◌≤◌, List}
use Rattle.slab.specs.Slab.{Slab}
use Rattle.file_tree.specs.declared.store.node.Node.{Node}
use Rattle.file_tree.specs.Store.Stored.{stored, AreStored}
use Rattle.file_tree.specs.Store.Cuts.{AreOrdered}
use Rattle.file_tree.specs.Store.Named.{address_at, AreNamed, NoKey}

-- the number of one is lower than that of the other
abbrev pub IsLower : Node → Node → Type 0
IsLower n m = n.number < m.number

-- the number is lower than this one
abbrev pub HasLower : ℕ → Node → Type 0
HasLower k n = n.number < k

-- it isn't
abbrev pub HasNoLower : ℕ → Node → Type 0
HasNoLower k n = k ≤ n.number

-- nodes at these keys, by rising numbers, and once more by their addresses
pub record AreStoredNodes (slab : Slab Node) (order names : List ℕ) : Type 0 where
  pub are : AreStored slab order
  pub rising : AreOrdered IsLower (stored slab order)
  pub named : AreNamed NoKey (address_at slab) order names
