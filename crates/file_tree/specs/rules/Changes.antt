-- What a caller has tested before a tree is changed.
use Rattle.std.specs.Prelude.{◌≡◌, ◌≢◌, ℕ, ◌==◌, [], Bool, true, false, length, take, drop, List}
use Rattle.std.specs.Prelude.{Option, Some, None, is_some, unwrap_or, ◌++◌, ◌∷◌}
use Rattle.file_tree.specs.rules.Files.{Name, Path, Files, Content, Directory, File, IsNodeName}
use Rattle.file_tree.specs.rules.Files.{path_of, path_behind, child, is_directory, bytes_of_node}
use Rattle.file_tree.specs.rules.Files.{entries_of}
use Rattle.file_tree.specs.declared.node_type.NodeType.{NodeType}
use Rattle.file_tree.specs.declared.node_type.NodeType.TheVariants as node_types

-- what a new node holds
abbrev pub empty : NodeType → Content
empty node_types.Directory = Directory
empty node_types.File = File []

-- the whole path of a node, where it has one
abbrev pub path_at : Files → ℕ → Path
path_at fs k = unwrap_or (path_of fs k) []

-- a name in a directory that has a path, under which there is nothing
pub record IsFree (fs : Files) (d : ℕ) (name : Name) : Type 0 where
  pub is_directory : is_directory fs d ≡ true
  pub path : is_some (path_of fs d) ≡ true
  pub free : child fs d name ≡ None
  pub named : IsNodeName name

-- at most so many bytes of a file from one of them on
abbrev pub read_from : Files → ℕ → ℕ → ℕ → List ℕ
read_from fs k from most = take most (drop from (bytes_of_node fs k))

-- a node that can lose its path: it isn't the root, and nothing hangs in it
pub record CanLose (fs : Files) (k : ℕ) : Type 0 where
  pub not_root : k ≢ 1
  pub empty : is_directory fs k ≡ true → (length (entries_of fs k) == 0) ≡ true

-- a node without a path can get one: a name in a directory
pub record CanHang (fs : Files) (k d : ℕ) (name : Name) : Type 0 where
  pub no_path : is_some (path_of fs k) ≡ false
  pub free : IsFree fs d name

-- the second path is the first one, or lies below it
abbrev pub within_path : Option Path → Option Path → Bool
within_path None d = false
within_path (Some above) None = false
within_path (Some above) (Some p) = is_some (path_behind above p)

-- a directory that has a path is this node, or lies below it
abbrev pub is_within : Files → ℕ → ℕ → Bool
is_within fs k d = within_path (path_of fs k) (path_of fs d)

-- A node that can be moved to a name in a directory. It isn't the root, has a path, and the
-- directory is no part of it.
pub record CanMove (fs : Files) (k d : ℕ) (name : Name) : Type 0 where
  pub not_root : k ≢ 1
  pub there : is_some (path_of fs k) ≡ true
  pub free : IsFree fs d name
  pub outside : is_within fs k d ≡ false

-- the directory above a node: its path is the node's without the last name
pub record IsParent (fs : Files) (k d : ℕ) : Type 0 where
  pub path : Path
  pub name : Name
  pub own : path_of fs k ≡ Some (path ++ name ∷ [])
  pub above : path_of fs d ≡ Some path
