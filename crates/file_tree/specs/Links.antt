-- How a tree keeps nodes: each names its directory, and paths follow from that.
use Rattle.std.specs.Prelude.{◌≡◌, ◌≢◌, ℕ, zero, suc, ◌+◌, ◌<◌, ◌≤◌, ◌==◌, ◌&&◌, if◌then◌else◌}
use Rattle.std.specs.Prelude.{Bool, true, false, List, [], ◌∷◌, length, reverse, map, find, sum_by}
use Rattle.std.specs.Prelude.{Option, Some, None, option_map}
use Rattle.std.specs.List.{AllByRecursion}
use Rattle.file_tree.specs.declared.store.node.Hook.{Hook}
use Rattle.file_tree.specs.declared.store.node.Hook.TheVariants.{Root, Removed, In}
use Rattle.file_tree.specs.declared.store.node.NodeContent as store
use Rattle.file_tree.specs.declared.store.node.NodeContent.TheVariants as content
use Rattle.file_tree.specs.declared.store.node.Node.{Node}
use Rattle.file_tree.specs.rules.Files.{Name, Path, FileNode, Files, Content, Directory, File}
use Rattle.file_tree.specs.rules.Files.{IsNodeName, IsSmallContent, bytes_of_content}
use Rattle.file_tree.specs.rules.Files.{is_directory_content, is_same_name, Entry}
use Rattle.file_tree.specs.rules.Chunks.{chunks_for}
use Rattle.file_tree.specs.Store.Bodies.{joined_bytes}
use Rattle.file_tree.specs.declared.limits.TheConstants.{NODES}

-- ---- hooks

-- the names from a node up to the root: its own first
abbrev pub Up : (ℕ → Hook) → ℕ → Path → Type 0
Up hook k [] = hook k ≡ Root
Up hook k (name ∷ up) = (d : ℕ) × (hook k ≡ In d name) × Up hook d up

abbrev pub climb_from : (ℕ → Option Path) → Hook → Option Path
climb_from above Root = Some []
climb_from above Removed = None
climb_from above (In d name) = option_map (λ up. name ∷ up) (above d)

-- the same, found in at most so many steps
abbrev pub climb : ℕ → (ℕ → Hook) → ℕ → Option Path
climb zero hook k = None
climb (suc n) hook k = climb_from (climb n hook) (hook k)

-- what hooks are in a tree whose next number is this
pub record IsTree (hook : ℕ → Hook) (next : ℕ) : Type 0 where
  pub root : hook 1 ≡ Root
  pub one_root : (k : ℕ) → hook k ≡ Root → k ≡ 1
  pub below : (k : ℕ) → hook k ≢ Removed → k < next
  pub reached : (k : ℕ) → hook k ≢ Removed → (up : Path) × Up hook k up
  pub one_each : (j k d : ℕ) (name : Name) → hook j ≡ In d name → hook k ≡ In d name → j ≡ k

-- ---- nodes

-- the node with this number
abbrev pub node_in : List Node → ℕ → Option Node
node_in ns k = find (λ (n : Node). n.number == k) ns

-- a node's hook; removed for a number that no node has
abbrev pub hook_held : Option Node → Hook
hook_held None = Removed
hook_held (Some n) = n.hook

abbrev pub hook_of : List Node → ℕ → Hook
hook_of ns k = hook_held (node_in ns k)

-- whether a node with this hook has a path
abbrev pub is_hung : Hook → Bool
is_hung Root = true
is_hung Removed = false
is_hung (In d name) = true

-- the name in a hook
abbrev pub name_of_hook : Hook → Name
name_of_hook Root = []
name_of_hook Removed = []
name_of_hook (In d name) = name

abbrev pub content_shown : store.NodeContent → Content
content_shown content.Directory = Directory
content_shown (content.File body) = File (joined_bytes body)

abbrev pub content_held : Option Node → Option Content
content_held None = None
content_held (Some n) = Some (content_shown n.content)

abbrev pub holds_directory_node : Option Content → Bool
holds_directory_node None = false
holds_directory_node (Some c) = is_directory_content c

-- whether a directory among the nodes has this number
abbrev pub is_directory_in : List Node → ℕ → Bool
is_directory_in ns k = holds_directory_node (content_held (node_in ns k))

-- the bytes of a node's file
abbrev pub file_bytes_of : Node → List ℕ
file_bytes_of n = bytes_of_content (content_shown n.content)

abbrev pub bytes_held_in : Option Node → List ℕ
bytes_held_in None = []
bytes_held_in (Some n) = file_bytes_of n

-- how many bytes all files have
abbrev pub used_in : List Node → ℕ
used_in ns = sum_by (λ (n : Node). length (file_bytes_of n)) ns

-- how many chunks all files have
abbrev pub chunks_in : List Node → ℕ
chunks_in ns = sum_by (λ (n : Node). chunks_for (length (file_bytes_of n))) ns

abbrev pub AreRisingNodes : ℕ → List Node → ℕ → Type 0
AreRisingNodes least [] next = least ≤ next
AreRisingNodes least (n ∷ ns) next = (least ≤ n.number) × AreRisingNodes (n.number + 1) ns next

pub record AreNodes (ns : List Node) (next : ℕ) : Type 0 where
  pub tree : IsTree (hook_of ns) next
  pub rising : AreRisingNodes 1 ns next
  pub named : (k d : ℕ) (name : Name) → hook_of ns k ≡ In d name → IsNodeName name
  pub placed : (k d : ℕ) (name : Name) → hook_of ns k ≡ In d name → is_directory_in ns d ≡ true
  pub root : is_directory_in ns 1 ≡ true
  pub contents : AllByRecursion (λ (n : Node). IsSmallContent (content_shown n.content)) ns
  pub few : length ns ≤ NODES

-- ---- what nodes show

abbrev pub shown_node : ℕ → (ℕ → Hook) → Node → FileNode
shown_node next hook n =
    record {
      number = n.number;
      path = option_map reverse (climb next hook n.number);
      content = content_shown n.content;
    }

abbrev pub files : List Node → ℕ → Files
files ns next = record { nodes = map (shown_node next (hook_of ns)) ns; next = next }

-- ---- places

-- the first node with this number is at this place
abbrev pub IsPlace : List Node → ℕ → ℕ → Type 0
IsPlace [] k place = ⊥
IsPlace (n ∷ ns) k zero = n.number ≡ k
IsPlace (n ∷ ns) k (suc place) = (n.number ≢ k) × IsPlace ns k place

-- no node has this number
abbrev pub IsNowhere : List Node → ℕ → Type 0
IsNowhere ns k = AllByRecursion (λ (n : Node). n.number ≢ k) ns

-- ---- what hangs in a directory

-- hung in this directory under this name
abbrev pub is_hooked : ℕ → Name → Hook → Bool
is_hooked d name Root = false
is_hooked d name Removed = false
is_hooked d name (In e other) = (e == d) && is_same_name other name

-- the number of the first node that hangs so
abbrev pub child_in : List Node → ℕ → Name → Option ℕ
child_in [] d name = None
child_in (n ∷ ns) d name = if is_hooked d name n.hook then Some n.number else child_in ns d name

-- hung in this directory
abbrev pub is_in : ℕ → Hook → Bool
is_in d Root = false
is_in d Removed = false
is_in d (In e other) = e == d

-- whether any node hangs in this directory
abbrev pub has_child : List Node → ℕ → Bool
has_child [] d = false
has_child (n ∷ ns) d = if is_in d n.hook then true else has_child ns d

-- the name under which a node with this hook hangs in this directory
abbrev pub hooked_name : ℕ → Hook → Option Name
hooked_name d Root = None
hooked_name d Removed = None
hooked_name d (In e other) = if e == d then Some other else None

abbrev pub hooked_entry : ℕ → Node → Option Entry
hooked_entry d n =
    option_map (λ (name : Name). record { name = name; number = n.number }) (hooked_name d n.hook)

abbrev pub with_entry : Option Entry → List Entry → List Entry
with_entry None others = others
with_entry (Some e) others = e ∷ others

-- the entries of what hangs in this directory
abbrev pub hooked_entries : ℕ → List Node → List Entry
hooked_entries d [] = []
hooked_entries d (n ∷ ns) = with_entry (hooked_entry d n) (hooked_entries d ns)

-- whether the way up from node d, of at most so many steps, comes to node k
abbrev pub comes_by : Bool → (ℕ → Bool) → Hook → Bool
comes_by here above Root = here
comes_by here above Removed = false
comes_by here above (In e name) = if here then true else above e

abbrev pub comes_to : ℕ → (ℕ → Hook) → ℕ → ℕ → Bool
comes_to zero hook k d = false
comes_to (suc n) hook k d = comes_by (d == k) (comes_to n hook k) (hook d)
