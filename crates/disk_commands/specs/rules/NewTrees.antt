-- What calls have said of a folder that is made at a path, and of what is made below it (this
-- project's own). Nobody knows it but by such a call.
use Rattle.std.specs.Prelude.{◌≡◌, ℕ, Bool, true, false, List, ◌∷◌, ◌++◌, Contains, IsTrue}
use Rattle.std.specs.declared.io.ErrorKind.{ErrorKind}
use Rattle.sector_disk.specs.declared.open_fault.OpenFault.{OpenFault}
use Rattle.file_tree.specs.rules.Files.{Files, IsNodeName, Name, bytes_of_node, slash}
use Rattle.file_listing.specs.declared.listed.ListedNode.{ListedNode}
use Rattle.file_listing.specs.rules.Listed.{IsPathText, listing_in}

-- of paths
pub record KnownTrees : Type 0 where
  -- a folder may be made there
  pub allowed : List ℕ → Bool
  -- a folder was made there, where there was nothing
  pub folder : List ℕ → Bool
  -- a file was made there, where there was nothing
  pub begun : List ℕ → Bool
  -- these bytes were written to the file that was made there
  pub written : List ℕ → List ℕ → Bool
  -- what was written to the file there, or the entries of the folder there, was made durable
  pub synced : List ℕ → Bool
  -- the entry of the new folder there was made durable
  pub entered : List ℕ → Bool
  -- what was to be made there was refused, by an error of this kind
  pub refused : List ℕ → ErrorKind → Bool
  -- the file or folder there couldn't be written or made durable, by an error of this kind
  pub unwritten : List ℕ → ErrorKind → Bool
  -- a new folder was left there
  pub kept : List ℕ → Bool
  -- the path was found to lead to what was made there
  pub found : List ℕ → Bool
  -- what was made there was removed: a file, or a folder that was empty
  pub removed : List ℕ → Bool
  -- it couldn't be removed, for this cause, or the path leads to another one
  pub stays : List ℕ → OpenFault → Bool

-- whatever a call says
abbrev pub all_said_of_trees : KnownTrees
all_said_of_trees = record {
  allowed = λ path. true;
  folder = λ path. true;
  begun = λ path. true;
  written = λ path bytes. true;
  synced = λ path. true;
  entered = λ path. true;
  refused = λ path kind. true;
  unwritten = λ path kind. true;
  kept = λ path. true;
  found = λ path. true;
  removed = λ path. true;
  stays = λ path why. true;
}

-- A folder was made at the path, or a file.
abbrev pub HasMade : KnownTrees → List ℕ → Bool → Type 0
HasMade trees path true = IsTrue (trees.folder path)
HasMade trees path false = IsTrue (trees.begun path)

-- a path behind that of a folder
abbrev pub below : List ℕ → List ℕ → List ℕ
below folder text = folder ++ slash ∷ text

-- This node of a tree has that path behind the folder's.
pub record IsListedBelow (fs : Files) (folder path : List ℕ) (node : ListedNode) : Type 0 where
  pub listed : Contains (listing_in fs) node
  pub is : path ≡ below folder node.path

-- the path is that of a directory of the tree
abbrev pub IsFolderOf : Files → List ℕ → List ℕ → Type 0
IsFolderOf fs folder path =
    (node : ListedNode) × IsListedBelow fs folder path node × (node.is_directory ≡ true)

-- the path is that of a file of the tree, and these are its bytes
abbrev pub IsFileOf : Files → List ℕ → List ℕ → List ℕ → Type 0
IsFileOf fs folder path bytes =
    (node : ListedNode) × IsListedBelow fs folder path node × (node.is_directory ≡ false)
    × (bytes ≡ bytes_of_node fs node.number)

-- The path leads into the folder. What is behind the folder's own path are names that a node may
-- have, so none of them is `..`.
pub record IsBelow (folder path : List ℕ) : Type 0 where
  pub text : List ℕ
  pub names : IsPathText text
  pub is : path ≡ below folder text

-- The path is that of a folder that was made, a `/` and a name that a node may have, without a `/`.
pub record LiesInMadeFolder (trees : KnownTrees) (path : List ℕ) : Type 0 where
  pub front : List ℕ
  pub made : IsTrue (trees.folder front)
  pub name : Name
  pub named : IsNodeName name
  pub is : path ≡ below front name
