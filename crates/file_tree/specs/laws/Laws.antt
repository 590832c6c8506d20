-- Laws of the file system model.
use Rattle.std.specs.Prelude.{◌≡◌, ℕ, ◌++◌, map, None}
use Rattle.file_tree.specs.rules.Files.{Path, FileNode, Content, Files, path_behind, path_moved}
use Rattle.file_tree.specs.rules.Files.{renamed}

abbrev pub node_number : FileNode → ℕ
node_number n = n.number

abbrev pub content_of : FileNode → Content
content_of n = n.content

-- A rename moves the path itself and whatever lies below it, leaves every other path as it is, and
-- changes no number and no content.
pub record RenameMovesASubtree : Type 0 where
  pub below : (old new rest : Path) → path_moved old new (old ++ rest) ≡ new ++ rest
  pub others : (old new p : Path) → path_behind old p ≡ None → path_moved old new p ≡ p
  pub numbers : (old new : Path) (fs : Files)
      → map node_number (renamed old new fs).nodes ≡ map node_number fs.nodes
  pub contents : (old new : Path) (fs : Files)
      → map content_of (renamed old new fs).nodes ≡ map content_of fs.nodes
