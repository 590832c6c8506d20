-- Files that are made again of what an image tells of their nodes (this project's own).
use Rattle.std.specs.Prelude.{◌≡◌, ℕ, ◌+◌, ◌<◌, ◌≤◌, ◌^◌, ◌==◌, List, [], ◌∷◌, length, map, find}
use Rattle.std.specs.Prelude.{Option, Some, None, true, false, is_some, Result, Err}
use Rattle.std.specs.List.{AllByRecursion}
use Rattle.file_tree.specs.declared.limits.TheConstants.{NODES}
use Rattle.file_tree.specs.rules.Files.{Files, Content, Directory, File, Entry, IsNodeName, IsFiles}
use Rattle.file_tree.specs.rules.Files.{IsSmallContent, node_of, path_of, child, fresh}
use Rattle.file_tree.specs.rules.Listings.{number_after}
use Rattle.file_tree.specs.laws.Laws.{node_number, content_of}
use Rattle.file_tree.specs.laws.Rebuilding.{HaveSameEntries}
use Rattle.state_image.specs.rules.Fronts.{lent_entry}
use Rattle.state_image.specs.declared.restoring.fault.RestoreFault.{RestoreFault}
use Rattle.state_image.specs.declared.restoring.fault.RestoreFault.TheVariants as fault
use Rattle.state_image.specs.declared.restoring.whole_node.WholeContent.{WholeContent}
use Rattle.state_image.specs.declared.restoring.whole_node.WholeContent.TheVariants as whole
use Rattle.state_image.specs.declared.restoring.whole_node.WholeNode.{WholeNode}
use Rattle.state_image.specs.restoring.Named.{Held, Entries, Bytes, NamedNode, AreNamedNodes}

-- ---- what is lent

abbrev pub lent_held : WholeContent → Held
lent_held (whole.Directory entries) = Entries (map lent_entry entries.items)
lent_held (whole.File bytes) = Bytes bytes.now

abbrev pub lent_whole : WholeNode → NamedNode
lent_whole n = record { number = n.number; held = lent_held n.content }

-- ---- what is told

abbrev pub saved_number : NamedNode → ℕ
saved_number n = n.number

-- a directory, or a file with its bytes
abbrev pub saved_content : Held → Content
saved_content (Entries es) = Directory
saved_content (Bytes bytes) = File bytes

abbrev pub saved_entries : Held → List Entry
saved_entries (Entries es) = es
saved_entries (Bytes bytes) = []

abbrev pub entries_in_found : Option NamedNode → List Entry
entries_in_found None = []
entries_in_found (Some n) = saved_entries n.held

-- the entries that are told of the node of a number
abbrev pub listed_node : List NamedNode → ℕ → List Entry
listed_node ns d = entries_in_found (find (λ (n : NamedNode). n.number == d) ns)

-- a node's content, by what is told of it
abbrev pub content_of_saved : NamedNode → Content
content_of_saved n = saved_content n.held

-- the same nodes, but for paths and entries
pub record AreAs (fs : Files) (ns : List NamedNode) : Type 0 where
  pub numbers : map node_number fs.nodes ≡ map saved_number ns
  pub contents : map content_of fs.nodes ≡ map content_of_saved ns

-- Files of which this is told. Their next number has 64 bits.
pub record IsSavedFiles (fs : Files) (next : ℕ) (ns : List NamedNode) : Type 0 where
  pub are : IsFiles fs
  pub within : fs.next < 2 ^ 64
  pub told : AreNamedNodes fs next ns

-- ---- what is answered

-- no files are told so, where that is the fault
abbrev pub RefusesSaved : {X : Type 0} → Result X RestoreFault → ℕ → List NamedNode → Type 0
RefusesSaved result next ns =
    result ≡ Err fault.NotAnImage → (gs : Files) → IsSavedFiles gs next ns → ⊥

-- ---- tests

-- a node can be made after the others
pub record CanCreate (fs : Files) (n : NamedNode) : Type 0 where
  pub next : fs.next ≤ n.number
  pub number : n.number + 1 < 2 ^ 64
  pub room : length fs.nodes < NODES
  pub small : IsSmallContent (saved_content n.held)

-- a node without a path can be hung in a directory under a name after all that hang there
pub record CanTake (fs : Files) (d : ℕ) (e : Entry) : Type 0 where
  pub there : is_some (node_of fs e.number) ≡ true
  pub no_path : is_some (path_of fs e.number) ≡ false
  pub named : IsNodeName e.name
  pub free : child fs d e.name ≡ None
  pub last : number_after fs d e.name ≡ None

-- ---- made so far

-- the first node is the root
abbrev pub BeginsWithRoot : List NamedNode → Type 0
BeginsWithRoot [] = ⊥
BeginsWithRoot (n ∷ ns) = (n.number ≡ 1) × (saved_content n.held ≡ Directory)

-- the number after those of nodes
abbrev pub next_behind : ℕ → List NamedNode → ℕ
next_behind least [] = least
next_behind least (n ∷ ns) = next_behind (n.number + 1) ns

-- these nodes alone, and none but the root has a path
pub record IsMadeOf (ns : List NamedNode) (fs : Files) : Type 0 where
  pub are : IsFiles fs
  pub same : AreAs fs ns
  pub bare : HaveSameEntries fresh fs
  pub next : fs.next ≡ next_behind 1 ns

-- ---- the end

-- no entries are told of a node without a path
abbrev pub MayStay : Files → NamedNode → Type 0
MayStay fs n = is_some (path_of fs n.number) ≡ false → saved_entries n.held ≡ []

-- each node may stay as it is
abbrev pub MayAllStay : Files → List WholeNode → Type 0
MayAllStay fs nodes = AllByRecursion (λ (n : WholeNode). MayStay fs (lent_whole n)) nodes
