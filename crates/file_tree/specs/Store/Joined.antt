-- Nodes whose files lie in chunks, and the nodes with bytes that contracts see.
use Rattle.std.specs.Prelude.{◌≡◌, ℕ, List, [], length, sum_by, map, Option, Some, None}
use Rattle.std.specs.Prelude.{false, slice_index_or}
use Rattle.std.specs.List.{AllByRecursion}
use Rattle.slab.specs.Slab.{slab_len}
use Rattle.file_tree.specs.declared.store.node.NodeContent.{NodeContent}
use Rattle.file_tree.specs.declared.store.node.NodeContent.TheVariants.{Directory, File}
use Rattle.file_tree.specs.declared.store.node.Node.{Node}
use Rattle.file_tree.specs.rules.Files.{is_directory_content}
use Rattle.file_tree.specs.Links.{content_shown, file_bytes_of}
use Rattle.file_tree.specs.Store.Bodies.{Chunks, FileBody, InChunks, Joined, keys_of, len_of}
use Rattle.file_tree.specs.Store.Bodies.{bytes_of_file, HasChunks, TurnsInto}
use Rattle.file_tree.specs.rules.Bytes.{resized}
use Rattle.file_tree.specs.Store.Changes.{with_content}
use Rattle.file_tree.specs.Store.Cuts.{HasElement, AreOrdered}
use Rattle.file_tree.specs.Store.Stored.{changed}

-- the file of a node; that of a directory is empty
abbrev pub file_body : NodeContent → FileBody
file_body Directory = InChunks [] 0
file_body (File body) = body

-- the number of a node
abbrev pub kept_number : Node → ℕ
kept_number n = n.number

-- the keys of its chunks
abbrev pub node_keys : Node → List ℕ
node_keys n = keys_of (file_body n.content)

-- what a node holds, with the bytes of its file
abbrev pub joined_content : Chunks → NodeContent → NodeContent
joined_content chunks Directory = Directory
joined_content chunks (File body) = File (Joined (bytes_of_file chunks body))

-- so a node
abbrev pub joined_node : Chunks → Node → Node
joined_node chunks n = with_content (joined_content chunks n.content) n

-- the nodes that contracts see
abbrev pub joined_nodes : Chunks → List Node → List Node
joined_nodes chunks ns = map (joined_node chunks) ns

-- what a new node holds
abbrev pub new_content : NodeContent → NodeContent
new_content Directory = Directory
new_content (File body) = File (Joined [])

-- so a new node
abbrev pub new_node : Node → Node
new_node n = with_content (new_content n.content) n

-- no key is in both
abbrev pub AreApart : List ℕ → List ℕ → Type 0
AreApart keys others = (k : ℕ) → HasElement keys k → HasElement others k → ⊥

-- no chunk is in two files
abbrev pub HaveApartKeys : Node → Node → Type 0
HaveApartKeys n m = AreApart (node_keys n) (node_keys m)

-- how many keys nodes have
abbrev pub keys_in : List Node → ℕ
keys_in ns = sum_by (λ (n : Node). length (node_keys n)) ns

-- each chunk is one of one file, and each file has its chunks
pub record KeepsFiles (chunks : Chunks) (ns : List Node) : Type 0 where
  pub held : AllByRecursion (λ (n : Node). HasChunks chunks (file_body n.content)) ns
  pub apart : AreOrdered HaveApartKeys ns
  pub count : slab_len chunks ≡ keys_in ns

-- how many bytes the file of a node has that is there
abbrev pub len_held : Option Node → ℕ
len_held None = 0
len_held (Some n) = len_of (file_body n.content)

-- a node in the slab, and the same as contracts see it
pub record IsKeptAs (n m : Node) : Type 0 where
  pub number : n.number ≡ m.number
  pub hook : n.hook ≡ m.hook
  pub directory : is_directory_content (content_shown n.content)
      ≡ is_directory_content (content_shown m.content)
  pub size : len_of (file_body n.content) ≡ length (file_bytes_of m)

-- the same of nodes that are there, or none of both
abbrev pub AreKeptAs : Option Node → Option Node → Type 0
AreKeptAs None None = Unit {0}
AreKeptAs (Some n) None = ⊥
AreKeptAs None (Some m) = ⊥
AreKeptAs (Some n) (Some m) = IsKeptAs n m

-- the file at a place becomes one of this size
pub record ResizesAt (old new : Chunks) (ns ms : List Node) (place size : ℕ) : Type 0 where
  pub node : Node
  pub at : node ≡ slice_index_or ns place node
  pub content : NodeContent
  pub file : is_directory_content (content_shown content) ≡ false
  pub nodes : ms ≡ changed (with_content content) place ns
  pub turned : TurnsInto old new (file_body node.content) (file_body content)
      (resized (bytes_of_file old (file_body node.content)) size)
