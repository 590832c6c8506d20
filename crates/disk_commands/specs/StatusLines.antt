-- The parts of a status line, in the order in which they are read.
use Rattle.std.specs.Prelude.{◌≡◌, ◌⊎◌, ◌<◌, ◌^◌, ℕ, List, ◌∷◌, ◌++◌, Option, IfSome, codes}
use Rattle.std.specs.Fmt.{decimal}
use Rattle.wasm_syntax.specs.declared.value.Trap.{Trap}
use Rattle.command_words.specs.rules.Texts.{trap_text}
use Rattle.disk_commands.specs.declared.on_disk.sighting.WatchedState.{WatchedState}
use Rattle.disk_commands.specs.rules.Watchings.{HasCodeInRange, left_words, state_words}
use Rattle.disk_commands.specs.rules.Watchings.{watch_words}

-- a name, this number of 64 bits, a space, and the rest
abbrev pub IsBehindNumber : List ℕ → ℕ → List ℕ → List ℕ → Type 0
IsBehindNumber name n bytes rest = (n < 2 ^ 64) × (bytes ≡ name ++ (decimal n ++ 32 ∷ rest))

-- the four numbers, and the rest
pub record IsBehindNumbers (bytes rest : List ℕ) : Type 0 where
  pub generation : ℕ
  pub steps : ℕ
  pub answers : ℕ
  pub lines : ℕ
  pub behind_generation : List ℕ
  pub behind_steps : List ℕ
  pub behind_answers : List ℕ
  pub first : IsBehindNumber (codes "generation ") generation bytes behind_generation
  pub second : IsBehindNumber (codes "steps ") steps behind_generation behind_steps
  pub third : IsBehindNumber (codes "answers ") answers behind_steps behind_answers
  pub last : IsBehindNumber (codes "lines ") lines behind_answers rest

-- the words of a worker that runs on or waits
abbrev pub IsOnWords : List ℕ → Type 0
IsOnWords words = (words ≡ codes "running\n") ⊎ (words ≡ codes "waits for a request\n")

-- those of one that has exited
abbrev pub IsExitWords : List ℕ → Type 0
IsExitWords words = (code : ℕ) × (code < 2 ^ 32)
    × (words ≡ codes "exited " ++ decimal code ++ codes "\n")

-- those of one that has trapped
abbrev pub IsTrapWords : List ℕ → Type 0
IsTrapWords words = (why : Trap) × (words ≡ codes "trapped " ++ trap_text why ++ codes "\n")

-- those of one that runs on, waits or is over
abbrev pub IsWatchWords : List ℕ → Type 0
IsWatchWords words = (is : WatchedState) × HasCodeInRange is × (words ≡ watch_words is)

-- such words, or the number of its sectors that are left and such words
pub record IsLeftWords (words : List ℕ) : Type 0 where
  pub left : Option ℕ
  pub is : WatchedState
  pub left_fits : IfSome left (λ n. n < 2 ^ 64)
  pub code_fits : HasCodeInRange is
  pub spelled : words ≡ left_words left is

-- words of a worker, or the number of its requests and words that may begin with its sectors
pub record IsStateWords (words : List ℕ) : Type 0 where
  pub requests : Option ℕ
  pub left : Option ℕ
  pub is : WatchedState
  pub requests_fit : IfSome requests (λ n. n < 2 ^ 64)
  pub left_fits : IfSome left (λ n. n < 2 ^ 64)
  pub code_fits : HasCodeInRange is
  pub spelled : words ≡ state_words requests left is
