-- The nodes of a directory in the order of their names.
use Rattle.std.specs.Prelude.{◌≡◌, ◌≢◌, ℕ, zero, suc, ◌<◌, ◌==◌, ◌&&◌, if◌then◌else◌, Bool, false}
use Rattle.std.specs.Prelude.{List, [], ◌∷◌, Option, Some, None}
use Rattle.file_tree.specs.declared.store.node.Hook.{Hook}
use Rattle.file_tree.specs.declared.store.node.Hook.TheVariants.{Root, Removed, In}
use Rattle.file_tree.specs.declared.store.node.Node.{Node}
use Rattle.file_tree.specs.rules.Files.{Name, is_before}
use Rattle.file_tree.specs.Links.{name_of_hook}

-- hung in this directory under a name before this one
abbrev pub comes_before : ℕ → Name → Hook → Bool
comes_before d name Root = false
comes_before d name Removed = false
comes_before d name (In e other) = (e == d) && is_before other name

-- hung in this directory under a name after this one
abbrev pub comes_after : ℕ → Name → Hook → Bool
comes_after d name Root = false
comes_after d name Removed = false
comes_after d name (In e other) = (e == d) && is_before name other

-- hung so, and under a name before that of the nearest node so far, where there is one
abbrev pub is_nearer : ℕ → Name → Option Node → Hook → Bool
is_nearer d name None hook = comes_after d name hook
is_nearer d name (Some n) hook =
    comes_after d name hook && comes_before d (name_of_hook n.hook) hook

-- the nearest of some nodes and the nearest so far
abbrev pub nearest_node : ℕ → Name → Option Node → List Node → Option Node
nearest_node d name nearest [] = nearest
nearest_node d name nearest (n ∷ ns) =
    nearest_node d name (if is_nearer d name nearest n.hook then Some n else nearest) ns

-- the node that is right after one of this directory
abbrev pub next_node : List Node → ℕ → Option Node → Option Node
next_node ns d None = None
next_node ns d (Some n) = nearest_node d (name_of_hook n.hook) None ns

-- the node at a place of this directory, from 0 on
abbrev pub node_listed : List Node → ℕ → ℕ → Option Node
node_listed ns d zero = nearest_node d [] None ns
node_listed ns d (suc place) = next_node ns d (node_listed ns d place)

-- there are nodes of this directory at so many places, and none after them
pub record IsCountListed (ns : List Node) (d count : ℕ) : Type 0 where
  pub some : (i : ℕ) → i < count → node_listed ns d i ≢ None
  pub no_more : node_listed ns d count ≡ None
