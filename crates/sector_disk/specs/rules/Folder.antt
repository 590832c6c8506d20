-- The folder that has a path's entry, as the bytes of its name.
use Rattle.std.specs.Prelude.{ℕ, List, [], ◌∷◌, Bool, ◌==◌, codes, if◌then◌else◌}
use Rattle.std.specs.List.{list_any, before_last}
use Rattle.std.specs.Path.{slash}

-- the byte is a `/`
abbrev pub is_slash : ℕ → Bool
is_slash byte = byte == slash

-- the root, where nothing is before the slash
abbrev pub or_root : List ℕ → List ℕ
or_root [] = codes "/"
or_root (byte ∷ bytes) = byte ∷ bytes

-- what is before the path's last slash, and the current folder where it has no slash
abbrev pub folder_of : List ℕ → List ℕ
folder_of path = if list_any is_slash path then or_root (before_last is_slash path) else codes "."
