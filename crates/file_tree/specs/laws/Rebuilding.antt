-- Laws of a file system that is built anew from what is told of it.
use Rattle.std.specs.Prelude.{◌≡◌, ◌≢◌, ℕ, ◌+◌, ◌<◌, ◌≤◌, List, [], ◌∷◌, ◌++◌, length, map, take}
use Rattle.std.specs.Prelude.{slice_get, true, false, Some, is_some}
use Rattle.file_tree.specs.rules.Files.{Name, Files, File, Entry, IsNodeName, IsFiles}
use Rattle.file_tree.specs.rules.Files.{IsSmallContent, inserted, node_of, path_of, is_directory}
use Rattle.file_tree.specs.rules.Files.{child, entries_of, created_removed, hung, with_next}
use Rattle.file_tree.specs.rules.Files.{with_file_bytes, bytes_of_node}
use Rattle.file_tree.specs.rules.Changes.{path_at, empty, CanHang}
use Rattle.file_tree.specs.declared.node_type.NodeType.{NodeType}
use Rattle.file_tree.specs.declared.limits.TheConstants.{NODES}
use Rattle.file_tree.specs.laws.Laws.{node_number, content_of}

-- the entry of a node under a name
abbrev pub entry_under : Name → ℕ → Entry
entry_under name k = record { name = name; number = k }

-- a directory has an entry of this number and name
pub record ListsNode (fs : Files) (d k : ℕ) (name : Name) : Type 0 where
  pub place : ℕ
  pub is : slice_get (entries_of fs d) place ≡ Some (entry_under name k)

-- An entry's path is that of its directory and the name after it. Each node but the root that has a
-- path is an entry of exactly one directory.
pub record EntriesTellPaths : Type 0 where
  pub path : (fs : Files) (d k : ℕ) (name : Name) → IsFiles fs → ListsNode fs d k name
      → path_of fs k ≡ Some (path_at fs d ++ name ∷ [])
  pub above : (fs : Files) (d k : ℕ) (name : Name) → IsFiles fs → ListsNode fs d k name
      → (is_directory fs d ≡ true) × (is_some (path_of fs d) ≡ true)
  pub below : (fs : Files) (d k : ℕ) (name : Name) → IsFiles fs → ListsNode fs d k name
      → (k ≢ 1) × IsNodeName name
  pub there : (fs : Files) (k : ℕ) → IsFiles fs → k ≢ 1 → is_some (path_of fs k) ≡ true
      → (d : ℕ) × (name : Name) × ListsNode fs d k name
  pub one : (fs : Files) (d e k : ℕ) (name other : Name) → IsFiles fs → ListsNode fs d k name
      → ListsNode fs e k other → (d ≡ e) × (name ≡ other)

-- A name leads to the node that its directory lists under it.
pub record ChildrenAreListed : Type 0 where
  pub listed : (fs : Files) (d k : ℕ) (name : Name) → IsFiles fs → child fs d name ≡ Some k
      → ListsNode fs d k name
  pub found : (fs : Files) (d k : ℕ) (name : Name) → IsFiles fs → ListsNode fs d k name
      → child fs d name ≡ Some k

-- No two entries of a directory have one name, nor are they of one node.
pub record EntriesDiffer : Type 0 where
  pub names : (fs : Files) (d i j : ℕ) (e f : Entry) → IsFiles fs
      → slice_get (entries_of fs d) i ≡ Some e → slice_get (entries_of fs d) j ≡ Some f
      → e.name ≡ f.name → i ≡ j
  pub numbers : (fs : Files) (d i j : ℕ) (e f : Entry) → IsFiles fs
      → slice_get (entries_of fs d) i ≡ Some e → slice_get (entries_of fs d) j ≡ Some f
      → e.number ≡ f.number → i ≡ j

-- the same nodes, but for their paths
pub record HaveSameNodes (fs gs : Files) : Type 0 where
  pub next : fs.next ≡ gs.next
  pub numbers : map node_number fs.nodes ≡ map node_number gs.nodes
  pub contents : map content_of fs.nodes ≡ map content_of gs.nodes

-- The second one has the nodes of the first one, and each of its directories that has a path has
-- the entries that it has in the first one.
pub record IsBuiltLike (fs gs : Files) : Type 0 where
  pub nodes : HaveSameNodes fs gs
  pub entries : (d : ℕ) → is_directory gs d ≡ true → is_some (path_of gs d) ≡ true
      → entries_of fs d ≡ entries_of gs d

-- Then it is the first one: paths follow from the entries, from the root on.
abbrev pub EntriesTellFiles : Type 0
EntriesTellFiles =
    (fs gs : Files) → IsFiles fs → IsFiles gs → IsBuiltLike fs gs → fs ≡ gs

-- what it makes of a file system that a node is hung in a directory under a name
pub record HasHung (fs gs : Files) (k d : ℕ) (name : Name) : Type 0 where
  pub are : IsFiles gs
  pub nodes : HaveSameNodes fs gs
  pub here : entries_of gs d ≡ inserted (entry_under name k) (entries_of fs d)
  pub others : (e : ℕ) → e ≢ d → entries_of gs e ≡ entries_of fs e
  pub own : entries_of gs k ≡ []
  pub path : path_of gs k ≡ Some (path_at fs d ++ name ∷ [])
  pub paths : (j : ℕ) → j ≢ k → path_of gs j ≡ path_of fs j

-- A node that is hung is one entry more of its directory, and all others stay.
abbrev pub HangingAddsAnEntry : Type 0
HangingAddsAnEntry =
    (fs : Files) (k d : ℕ) (name : Name) → IsFiles fs → is_some (node_of fs k) ≡ true
    → CanHang fs k d name → HasHung fs (hung k (path_at fs d ++ name ∷ []) fs) k d name

-- the same entries and paths
pub record HaveSameEntries (fs gs : Files) : Type 0 where
  pub are : IsFiles gs
  pub entries : (d : ℕ) → entries_of gs d ≡ entries_of fs d
  pub paths : (k : ℕ) → path_of gs k ≡ path_of fs k

-- A new node without a path, a higher next number and other bytes leave entries and paths.
pub record OthersKeepEntries : Type 0 where
  pub created : (fs : Files) (k : ℕ) (node_type : NodeType) → IsFiles fs → fs.next ≤ k
      → length fs.nodes < NODES → HaveSameEntries fs (created_removed k (empty node_type) fs)
  pub next : (fs : Files) (most : ℕ) → IsFiles fs → fs.next ≤ most
      → HaveSameEntries fs (with_next most fs)
  pub bytes : (fs : Files) (k : ℕ) (bytes : List ℕ) → IsFiles fs → is_some (node_of fs k) ≡ true
      → is_directory fs k ≡ false → IsSmallContent (File bytes)
      → HaveSameEntries fs (with_file_bytes k bytes fs)

-- The entry at a place is after those before it, if it is put among them.
abbrev pub EntriesComeInOrder : Type 0
EntriesComeInOrder =
    (fs : Files) (d place : ℕ) (e : Entry) → IsFiles fs
    → slice_get (entries_of fs d) place ≡ Some e
    → inserted e (take place (entries_of fs d)) ≡ take (place + 1) (entries_of fs d)

-- A new file that is filled is a new file of these bytes. Of bytes that are put in twice the second
-- ones stay, and a file then has them.
pub record FilledFiles : Type 0 where
  pub new : (fs : Files) (k : ℕ) (old bytes : List ℕ) → IsFiles fs → fs.next ≤ k
      → with_file_bytes k bytes (created_removed k (File old) fs)
      ≡ created_removed k (File bytes) fs
  pub again : (fs : Files) (k : ℕ) (old bytes : List ℕ)
      → with_file_bytes k bytes (with_file_bytes k old fs) ≡ with_file_bytes k bytes fs
  pub bytes : (fs : Files) (k : ℕ) (bytes : List ℕ) → is_some (node_of fs k) ≡ true
      → bytes_of_node (with_file_bytes k bytes fs) k ≡ bytes
