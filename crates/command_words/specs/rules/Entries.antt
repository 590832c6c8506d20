-- Entries of an environment without a name, and what is told of one (this project's own).
use Rattle.std.specs.Prelude.{◌≡◌, ℕ, ◌+◌, ◌<◌, List, ◌++◌, codes, Some, length, slice_get}
use Rattle.std.specs.Fmt.{decimal}
use Rattle.wasi_abi.specs.rules.Configs.{IsNamed}

-- the entry at this place has no name
pub record IsUnnamedPlace (entries : List (List ℕ)) (place : ℕ) : Type 0 where
  pub inside : place < length entries
  pub entry : List ℕ
  pub is : slice_get entries place ≡ Some entry
  pub unnamed : IsNamed entry → ⊥

-- That is the entry with this number, from 1 on.
abbrev pub IsUnnamedEntry : List (List ℕ) → ℕ → Type 0
IsUnnamedEntry entries number =
    (place : ℕ) × IsUnnamedPlace entries place × (number ≡ place + 1)

-- what is told of it: the fault, and the number on a line of its own
abbrev pub entry_text : ℕ → List ℕ
entry_text number =
    codes "failed C2 Text\nentry " ++ decimal number ++ codes " of --env isn't NAME=VALUE\n"
