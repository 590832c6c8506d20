-- What is between the text of a path and a name after it.
use Rattle.std.specs.Prelude.{ℕ, List, [], ◌∷◌}
use Rattle.file_tree.specs.rules.Files.{Path, slash}

-- nothing after the root's path, and a `/` after any other one
abbrev pub separator_behind : Path → List ℕ
separator_behind [] = []
separator_behind (name ∷ path) = slash ∷ []
