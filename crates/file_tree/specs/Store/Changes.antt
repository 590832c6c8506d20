-- What is changed of a node.
use Rattle.std.specs.Prelude.{ℕ, List}
use Rattle.file_tree.specs.declared.store.node.Hook.{Hook}
use Rattle.file_tree.specs.declared.store.node.NodeContent.{NodeContent}
use Rattle.file_tree.specs.declared.store.node.NodeContent.TheVariants.{Directory, File}
use Rattle.file_tree.specs.declared.store.node.Node.{Node}
use Rattle.file_tree.specs.rules.Bytes.{written, resized}
use Rattle.file_tree.specs.Store.Bodies.{Joined, joined_bytes}

abbrev pub with_hook : Hook → Node → Node
with_hook hook n = record { number = n.number; hook = hook; content = n.content }

abbrev pub with_content : NodeContent → Node → Node
with_content content n = record { number = n.number; hook = n.hook; content = content }

-- bytes written into a file; a directory stays
abbrev pub content_written : ℕ → List ℕ → NodeContent → NodeContent
content_written from bytes Directory = Directory
content_written from bytes (File old) = File (Joined (written (joined_bytes old) from bytes))

-- a file of this size; a directory stays
abbrev pub content_resized : ℕ → NodeContent → NodeContent
content_resized size Directory = Directory
content_resized size (File old) = File (Joined (resized (joined_bytes old) size))

abbrev pub node_written : ℕ → List ℕ → Node → Node
node_written from bytes n = with_content (content_written from bytes n.content) n

abbrev pub node_resized : ℕ → Node → Node
node_resized size n = with_content (content_resized size n.content) n
