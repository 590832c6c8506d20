-- The rule of `path_rename` after its walks, and what it has tested before anything moves (this
-- project's own).
use Rattle.std.specs.Prelude.{◌≡◌, ℕ, true, false, is_some, Option, Some, Ok}
use Rattle.file_tree.specs.rules.Files.{Name, Files, IsNodeName, child, is_directory, path_of}
use Rattle.wasi_calls_rules.specs.WasiStates.{WasiState}
use Rattle.wasi_calls_rules.specs.Checks.{Bytes, Ruling}
use Rattle.wasi_calls_rules.specs.Paths.{WalkEnd}
use Rattle.wasi_calls_rules.specs.Entries.{a_leaf, is_within_node, is_same_node, gives_way}
use Rattle.wasi_calls_rules.specs.Entries.{renamed_to}

-- from one place to another, both of them names
abbrev pub place_renamed : WalkEnd → WalkEnd → Bytes → WasiState → Ruling
place_renamed source target m h =
    a_leaf source (λ from name.
    a_leaf target (λ to other.
    renamed_to from name source to other target m h))

-- a node may take a name in a directory, at which another may be
pub record MayTake (fs : Files) (k d : ℕ) (name : Name) (o : Option ℕ) : Type 0 where
  pub there : (e : ℕ) × (own : Name) × (child fs e own ≡ Some k)
  pub directory : is_directory fs d ≡ true
  pub path : is_some (path_of fs d) ≡ true
  pub named : IsNodeName name
  pub outside : is_within_node fs k d ≡ false
  pub over : child fs d name ≡ o
  pub differ : is_same_node k o ≡ false
  pub way : gives_way fs k o ≡ Ok tt
