-- A node is read in two steps (this project's own): its front, and then entry by entry what a
-- directory has.
use Rattle.std.specs.Prelude.{ℕ, List, [], ◌∷◌, ◌++◌, length}
use Rattle.wasi_abi.specs.rules.Layouts.{u32_bytes, u64_bytes}
use Rattle.wasi_abi.specs.rules.Numbers.{directory_type, regular_file}
use Rattle.file_tree.specs.rules.Files.{Files, FileNode, Content, Directory, File, Entry}
use Rattle.file_tree.specs.rules.Files.{entries_of}
use Rattle.state_image.specs.declared.reading.files.ReadContent.{ReadContent}
use Rattle.state_image.specs.declared.reading.files.ReadContent.TheVariants as read
use Rattle.state_image.specs.declared.reading.files.ReadNode.{ReadNode}
use Rattle.state_image.specs.declared.reading.files.ReadEntry.{ReadEntry}
use Rattle.state_image.specs.rules.Ranges.{IsIn}

-- the bytes of a file, or how many entries of a directory are behind
pub data ContentFront : Type 0 where
  EntryCount : ℕ → ContentFront
  FileBytes : List ℕ → ContentFront

-- a node before the entries
pub record NodeFront : Type 0 where
  pub number : ℕ
  pub content : ContentFront

-- those that are lent
abbrev pub lent_content : ReadContent → ContentFront
lent_content (read.Directory count) = EntryCount count
lent_content (read.File bytes) = FileBytes bytes.now

-- the front of a node that was read
abbrev pub lent_node : ReadNode → NodeFront
lent_node n = record { number = n.number; content = lent_content n.content }

-- an entry that was read
abbrev pub lent_entry : ReadEntry → Entry
lent_entry e = record { name = e.name.now; number = e.number }

-- the front of a node, and the entries after it
abbrev pub content_front : Files → ℕ → Content → ContentFront
content_front fs k Directory = EntryCount (length (entries_of fs k))
content_front fs k (File bytes) = FileBytes bytes

-- the front of this node of these files
abbrev pub node_front_of : Files → FileNode → NodeFront
node_front_of fs n = record { number = n.number; content = content_front fs n.number n.content }

-- the entries that are after a node's front: those of a directory
abbrev pub entries_after_front : Files → ℕ → Content → List Entry
entries_after_front fs k Directory = entries_of fs k
entries_after_front fs k (File bytes) = []

-- its bytes: the number, the type, and the number of entries or the bytes of a file
abbrev pub content_front_bytes : ContentFront → List ℕ
content_front_bytes (EntryCount count) = directory_type ∷ u32_bytes count
content_front_bytes (FileBytes bytes) = regular_file ∷ (u64_bytes (length bytes) ++ bytes)

-- a node's front as bytes: its number and the front of its content
abbrev pub front_bytes : NodeFront → List ℕ
front_bytes n = u64_bytes n.number ++ content_front_bytes n.content

-- its count or its length has room in its field
abbrev pub IsContentFrontIn : ContentFront → Type 0
IsContentFrontIn (EntryCount count) = IsIn 4 count
IsContentFrontIn (FileBytes bytes) = IsIn 8 (length bytes)

-- within the fields
pub record IsFrontIn (n : NodeFront) : Type 0 where
  pub number : IsIn 8 n.number
  pub content : IsContentFrontIn n.content
