-- The file system model (this project's own): each node's number, its whole path while it has one,
-- and what it holds.
use Rattle.std.specs.Prelude.{◌≡◌, ◌≢◌, ◌⊎◌, ℕ, ◌+◌, ◌<◌, ◌≤◌, ◌==◌, nat_lt, not, ◌&&◌, Bool, true}
use Rattle.std.specs.Prelude.{false, if◌then◌else◌, List, [], ◌∷◌, ◌++◌, length, map, filter}
use Rattle.std.specs.Prelude.{sum_by, find, Option, Some, None, option_map, IfSome}
use Rattle.std.specs.Option.{option_and_then, is_some}
use Rattle.std.specs.List.{AllByRecursion}
use Rattle.std.specs.Str.{IsUtf8}
use Rattle.file_tree.specs.declared.limits.TheConstants.{NODES, FILE_BYTES, NAME_BYTES}

-- the bytes of one part of a path
abbrev pub Name : Type 0
Name = List ℕ

-- the names from the root on
abbrev pub Path : Type 0
Path = List Name

-- what a node holds: nothing of its own, or bytes
pub data Content : Type 0 where
  Directory : Content
  File : (bytes : List ℕ) → Content

-- A node that has no path was removed. It stays while a descriptor names it.
pub record FileNode : Type 0 where
  pub number : ℕ
  pub path : Option Path
  pub content : Content

-- The nodes, by rising number, and the number of the next one. So the pairs of a whole path and a
-- number are those of the nodes with a path, and equal file systems are equal values.
pub record Files : Type 0 where
  pub nodes : List FileNode
  pub next : ℕ

-- ---- names and paths

-- two names have the same bytes
abbrev pub is_same_name : Name → Name → Bool
is_same_name [] [] = true
is_same_name (a ∷ name) (b ∷ other) = (a == b) && is_same_name name other
is_same_name [] (b ∷ other) = false
is_same_name (a ∷ name) [] = false

-- two paths have the same names
abbrev pub is_same_path : Path → Path → Bool
is_same_path [] [] = true
is_same_path (a ∷ path) (b ∷ other) = is_same_name a b && is_same_path path other
is_same_path [] (b ∷ other) = false
is_same_path (a ∷ path) [] = false

-- the byte `/`
abbrev pub slash : ℕ
slash = 47

-- the byte `.`
abbrev pub dot : ℕ
dot = 46

-- a byte that a name may have
abbrev pub IsNameByte : ℕ → Type 0
IsNameByte b = (b ≢ 0) × (b ≢ slash)

-- a name that a node may have
pub record IsNodeName (name : Name) : Type 0 where
  pub not_empty : name ≢ []
  pub short : length name ≤ NAME_BYTES
  pub bytes : AllByRecursion IsNameByte name
  pub utf8 : IsUtf8 name
  pub not_self : name ≢ dot ∷ []
  pub not_parent : name ≢ dot ∷ dot ∷ []

-- ---- what there is

-- the node with this number
abbrev pub node_of : Files → ℕ → Option FileNode
node_of fs k = find (λ (n : FileNode). n.number == k) fs.nodes

-- its path, where it has one
abbrev pub path_of : Files → ℕ → Option Path
path_of fs k = option_and_then (λ (n : FileNode). n.path) (node_of fs k)

-- the node has a path, which is this one
abbrev pub is_at : Path → Option Path → Bool
is_at p None = false
is_at p (Some q) = is_same_path p q

-- the node at a path
abbrev pub at : Files → Path → Option FileNode
at fs p = find (λ (n : FileNode). is_at p n.path) fs.nodes

-- the number of the node under a name in a directory. A removed directory has none
abbrev pub child : Files → ℕ → Name → Option ℕ
child fs d name =
    option_and_then (λ p. option_map (λ (n : FileNode). n.number) (at fs (p ++ name ∷ [])))
    (path_of fs d)

-- a directory's content
abbrev pub is_directory_content : Content → Bool
is_directory_content Directory = true
is_directory_content (File bytes) = false

-- there is a node, and it is a directory
abbrev pub holds_directory : Option FileNode → Bool
holds_directory None = false
holds_directory (Some n) = is_directory_content n.content

-- node k is there, and is a directory
abbrev pub is_directory : Files → ℕ → Bool
is_directory fs k = holds_directory (node_of fs k)

-- the bytes of a file, none of a directory
abbrev pub bytes_of_content : Content → List ℕ
bytes_of_content Directory = []
bytes_of_content (File bytes) = bytes

-- the bytes of a file that is there, else none
abbrev pub bytes_held : Option FileNode → List ℕ
bytes_held None = []
bytes_held (Some n) = bytes_of_content n.content

-- the bytes of a file, and none of a directory
abbrev pub bytes_of_node : Files → ℕ → List ℕ
bytes_of_node fs k = bytes_held (node_of fs k)

-- how many bytes all files have, removed ones that are open included
abbrev pub used : Files → ℕ
used fs = sum_by (λ (n : FileNode). length (bytes_of_content n.content)) fs.nodes

-- the name after a directory's path, where exactly one is there
abbrev pub name_behind : Path → Path → Option Name
name_behind [] [] = None
name_behind [] (name ∷ []) = Some name
name_behind [] (name ∷ other ∷ path) = None
name_behind (a ∷ front) [] = None
name_behind (a ∷ front) (b ∷ path) = if is_same_name a b then name_behind front path else None

-- an entry of a directory
pub record Entry : Type 0 where
  pub name : Name
  pub number : ℕ

-- the entry of a node in the directory of this path, where it lies right in it
abbrev pub entry_of : Path → FileNode → Option Entry
entry_of p n =
    option_map (λ name. record {
      name = name;
      number = n.number;
    }) (option_and_then (name_behind p) n.path)

-- the entries of the directory of this path, in the order of the nodes
abbrev pub entries_in : Path → List FileNode → List Entry
entries_in p [] = []
entries_in p (n ∷ nodes) = with_entry (entry_of p n) (entries_in p nodes)
  where
    with_entry : Option Entry → List Entry → List Entry
    with_entry None others = others
    with_entry (Some e) others = e ∷ others

-- names by the order of their bytes
abbrev pub is_before : Name → Name → Bool
is_before [] [] = false
is_before [] (b ∷ other) = true
is_before (a ∷ name) [] = false
is_before (a ∷ name) (b ∷ other) = if nat_lt a b then true else if nat_lt b a then false
    else is_before name other

-- an entry put before the first one with a greater name
abbrev pub inserted : Entry → List Entry → List Entry
inserted e [] = e ∷ []
inserted e (f ∷ entries) = if is_before e.name f.name then e ∷ f ∷ entries
    else f ∷ inserted e entries

-- entries in the order of their names
abbrev pub sorted : List Entry → List Entry
sorted [] = []
sorted (e ∷ entries) = inserted e (sorted entries)

-- the entries of a directory that has a path, in the order of their names
abbrev pub entries_under : Files → Option Path → List Entry
entries_under fs None = []
entries_under fs (Some p) = sorted (entries_in p fs.nodes)

-- a directory's entries by the order of their names
abbrev pub entries_of : Files → ℕ → List Entry
entries_of fs d = entries_under fs (path_of fs d)

-- ---- changes

-- a new node at a path
abbrev pub created : Path → Content → Files → Files
created p c fs = record {
  nodes = fs.nodes ++ record {
    number = fs.next;
    path = Some p;
    content = c;
  } ∷ [];
  next = fs.next + 1;
}

-- the node with this number, changed
abbrev pub changed_at : ℕ → (FileNode → FileNode) → FileNode → FileNode
changed_at k change n = if n.number == k then change n else n

-- the files with a change of node k
abbrev pub with_node : ℕ → (FileNode → FileNode) → Files → Files
with_node k change fs = record { nodes = map (changed_at k change) fs.nodes; next = fs.next }

-- a file with other bytes
abbrev pub with_file_bytes : ℕ → List ℕ → Files → Files
with_file_bytes k bytes fs = with_node k (λ (n : FileNode). record n { content = File bytes }) fs

-- a node that has lost its path
abbrev pub removed : ℕ → Files → Files
removed k fs = with_node k (λ (n : FileNode). record n { path = None }) fs

-- a new node without a path, under a number that is no less than the next one
abbrev pub created_removed : ℕ → Content → Files → Files
created_removed k c fs =
    record {
      nodes = fs.nodes ++ record { number = k; path = None; content = c } ∷ [];
      next = k + 1;
    }

-- a node that has got a path
abbrev pub hung : ℕ → Path → Files → Files
hung k p fs = with_node k (λ (n : FileNode). record n { path = Some p }) fs

-- another number for the next new node
abbrev pub with_next : ℕ → Files → Files
with_next next fs = record { nodes = fs.nodes; next = next }

-- a node that is gone
abbrev pub forgotten : ℕ → Files → Files
forgotten k fs = record {
  nodes = filter (λ (n : FileNode). not (n.number == k)) fs.nodes;
  next = fs.next;
}

-- the files without the nodes that have no path; no number is used again
abbrev pub only_named : Files → Files
only_named fs = record fs { nodes = filter (λ (n : FileNode). is_some n.path) fs.nodes }

-- what is after a front
abbrev pub path_behind : Path → Path → Option Path
path_behind [] p = Some p
path_behind (n ∷ front) [] = None
path_behind (n ∷ front) (m ∷ p) = if is_same_name n m then path_behind front p else None

-- a path with a new front in the place of the old one, where it begins with the old one
abbrev pub with_new_front : Path → Path → Option Path → Path
with_new_front new p None = p
with_new_front new p (Some rest) = new ++ rest

-- a path at or below the old one, as the same below the new one; others stay
abbrev pub path_moved : Path → Path → Path → Path
path_moved old new p = with_new_front new p (path_behind old p)

-- every path that begins with the old one begins with the new one
abbrev pub renamed : Path → Path → Files → Files
renamed old new fs =
    record {
      nodes = map (λ (n : FileNode).
          record n { path = option_map (path_moved old new) n.path }) fs.nodes;
      next = fs.next;
    }

-- ---- bytes of a file

-- ---- when a value is a file system

-- numbers rise from this one on, and stay below the next one
abbrev pub AreRising : ℕ → List FileNode → ℕ → Type 0
AreRising least [] next = least ≤ next
AreRising least (n ∷ nodes) next = (least ≤ n.number) × AreRising (n.number + 1) nodes next

-- a path but the root's is a name in a directory that has a path
abbrev pub IsPlaced : Files → Path → Type 0
IsPlaced fs p = (p ≡ []) ⊎ ((d : ℕ) × (parent : Path) × (name : Name) × (p ≡ parent ++ name ∷ [])
    × IsNodeName name × (path_of fs d ≡ Some parent) × (is_directory fs d ≡ true))

-- there is a path, and it is this one
abbrev pub HasPath : Option Path → Path → Type 0
HasPath None p = ⊥
HasPath (Some q) p = q ≡ p

-- no two nodes have one path
abbrev pub HaveDistinctPaths : List FileNode → Type 0
HaveDistinctPaths [] = Unit {0}
HaveDistinctPaths (n ∷ nodes) = AllByRecursion (λ (other : FileNode). (p : Path) → HasPath n.path p
    → HasPath other.path p → ⊥) nodes × HaveDistinctPaths nodes

-- a file is no longer than the limit, and holds bytes
abbrev pub IsSmallContent : Content → Type 0
IsSmallContent Directory = Unit {0}
IsSmallContent (File bytes) = (length bytes ≤ FILE_BYTES) × AllByRecursion (λ b. b < 256) bytes

-- a file system: what holds of all files that calls make
pub record IsFiles (fs : Files) : Type 0 where
  -- numbers rise from 1 on, below the next one, and node 1 is the root, a directory
  pub rising : AreRising 1 fs.nodes fs.next
  pub root : path_of fs 1 ≡ Some []
  pub root_is_directory : is_directory fs 1 ≡ true
  pub placed : AllByRecursion (λ (n : FileNode). IfSome n.path (IsPlaced fs)) fs.nodes
  pub distinct : HaveDistinctPaths fs.nodes
  pub contents : AllByRecursion (λ (n : FileNode). IsSmallContent n.content) fs.nodes
  pub few : length fs.nodes ≤ NODES

-- the file system of a fresh process: an empty root
abbrev pub fresh : Files
fresh = record { nodes = record { number = 1; path = Some []; content = Directory } ∷ []; next = 2 }
