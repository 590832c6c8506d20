-- What an image tells of nodes: numbers and contents, and no paths (this project's own).
use Rattle.std.specs.Prelude.{◌≡◌, ℕ, List, ◌∷◌, ◌++◌, length, map}
use Rattle.wasi_abi.specs.rules.Layouts.{u64_bytes}
use Rattle.wasi_abi.specs.rules.Numbers.{directory_type, regular_file}
use Rattle.file_tree.specs.rules.Files.{Files, FileNode, Content, Directory, File, Entry}
use Rattle.file_tree.specs.rules.Files.{entries_of}
use Rattle.state_image.specs.rules.ProcessImage.{items_bytes, entry_bytes}

-- the entries of a directory, or the bytes of a file
pub data Held : Type 0 where
  Entries : List Entry → Held
  Bytes : List ℕ → Held

-- a node's number, and what it holds
pub record NamedNode : Type 0 where
  pub number : ℕ
  pub held : Held

-- what the node of a number holds
abbrev pub held_of : Files → ℕ → Content → Held
held_of fs k Directory = Entries (entries_of fs k)
held_of fs k (File bytes) = Bytes bytes

-- what is told of a node
abbrev pub named : Files → FileNode → NamedNode
named fs n = record { number = n.number; held = held_of fs n.number n.content }

-- the type, and the entries or the bytes
abbrev pub held_bytes : Held → List ℕ
held_bytes (Entries es) = directory_type ∷ items_bytes entry_bytes es
held_bytes (Bytes bytes) = regular_file ∷ (u64_bytes (length bytes) ++ bytes)

-- the bytes of what is told of a node
abbrev pub named_bytes : NamedNode → List ℕ
named_bytes n = u64_bytes n.number ++ held_bytes n.held

-- these files have this next number, and this is told of their nodes
pub record AreNamedNodes (fs : Files) (number : ℕ) (ns : List NamedNode) : Type 0 where
  pub next : fs.next ≡ number
  pub nodes : map (named fs) fs.nodes ≡ ns
