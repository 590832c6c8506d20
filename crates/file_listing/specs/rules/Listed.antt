-- The nodes of a tree that are listed, by their paths (this project's own).
use Rattle.std.specs.Prelude.{◌≡◌, ◌≢◌, ◌⊎◌, ℕ, true, false, List, [], ◌∷◌, ◌++◌, length, Option}
use Rattle.std.specs.Prelude.{Some, None, Result, Ok, Err, Contains, All, Vec}
use Rattle.std.specs.List.{AllByRecursion, filter_map}
use Rattle.std.specs.declared.alloc.Global.{Global}
use Rattle.file_tree.specs.rules.Files.{Name, Path, FileNode, Files, IsNodeName, slash}
use Rattle.file_tree.specs.rules.Files.{bytes_of_content, bytes_of_node, is_directory_content}
use Rattle.file_listing.specs.declared.listed.ListedNode.{ListedNode}
use Rattle.file_listing.specs.declared.fault.PathFault.{PathFault}
use Rattle.file_listing.specs.declared.fault.PathFault.TheVariants as fault

-- the names of a path, with a `/` between each two
abbrev pub path_text : Path → List ℕ
path_text [] = []
path_text (name ∷ []) = name
path_text (name ∷ next ∷ path) = name ++ slash ∷ path_text (next ∷ path)

-- The text of a path of names that a node may have, but not the root's. So it is UTF-8 without a
-- byte 0, and none of its names is empty, `.` or `..`.
pub record IsPathText (text : List ℕ) : Type 0 where
  pub first : Name
  pub path : Path
  pub named : AllByRecursion IsNodeName (first ∷ path)
  pub is : text ≡ path_text (first ∷ path)

-- What is listed of a node with this path. Nothing is where it is that of the root, nor where it
-- was removed and has none.
abbrev pub listed_at : FileNode → Option Path → Option ListedNode
listed_at n None = None
listed_at n (Some []) = None
listed_at n (Some (name ∷ path)) = Some (record {
  number = n.number;
  is_directory = is_directory_content n.content;
  size = length (bytes_of_content n.content);
  path = path_text (name ∷ path);
})

-- what is listed of a node
abbrev pub listed_of : FileNode → Option ListedNode
listed_of n = listed_at n n.path

-- all that is listed of a tree, by rising numbers
abbrev pub listing_in : Files → List ListedNode
listing_in fs = filter_map listed_of fs.nodes

-- all listed nodes have such paths
abbrev pub HaveNames : List ListedNode → Type 0
HaveNames = All (λ (node : ListedNode). IsPathText node.path)

-- The path is that of a directory among these nodes, a `/` and a name that a node may have.
pub record HasParentAmong (nodes : List ListedNode) (path : List ℕ) : Type 0 where
  pub parent : ListedNode
  pub listed : Contains nodes parent
  pub directory : parent.is_directory ≡ true
  pub name : Name
  pub named : IsNodeName name
  pub is : path ≡ parent.path ++ slash ∷ name

-- The path's directory is among these nodes, or it is the root, which isn't listed.
abbrev pub IsPlacedAmong : List ListedNode → List ℕ → Type 0
IsPlacedAmong nodes path = HasParentAmong nodes path ⊎ IsNodeName path

-- so it is with the path of each of these nodes
abbrev pub HaveParents : List ListedNode → Type 0
HaveParents nodes = All (λ (node : ListedNode). IsPlacedAmong nodes node.path) nodes

-- the node is listed under this path
abbrev pub IsListedAt : Files → List ℕ → ListedNode → Type 0
IsListedAt fs path node = Contains (listing_in fs) node × (node.path ≡ path)

-- The bytes are those of a file that is listed under the path. Or none is listed so, or it is a
-- directory.
abbrev pub ReadsPath : Files → List ℕ → Result (Vec ℕ Global) PathFault → Type 0
ReadsPath fs path (Ok bytes) = (node : ListedNode) × IsListedAt fs path node
    × (node.is_directory ≡ false) × (bytes.items ≡ bytes_of_node fs node.number)
ReadsPath fs path (Err fault.Missing) =
    All (λ (node : ListedNode). node.path ≢ path) (listing_in fs)
ReadsPath fs path (Err fault.Directory) = (node : ListedNode) × IsListedAt fs path node
    × (node.is_directory ≡ true)
ReadsPath fs path (Err fault.Memory) = Unit {0}
