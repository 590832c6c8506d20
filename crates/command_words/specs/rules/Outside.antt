-- Times and random bytes, which no request line gives (this project's own).
use Rattle.std.specs.Prelude.{◌≡◌, ℕ, ◌+◌, ◌-◌, ◌^◌, ◌<◌, ◌≤◌, ⊤, List, [], ◌∷◌, ◌++◌, length}
use Rattle.std.specs.Prelude.{Bool, IsTrue, IfSome}
use Rattle.wasi_abi.specs.declared.answer.Answer.{Answer}
use Rattle.wasi_abi.specs.declared.answer.Answer.TheVariants as answer
use Rattle.process_rules.specs.Runs.{Kept, Given, Wider, Succeeds}
use Rattle.command_words.specs.declared.lines.outside.Outside.{Outside}
use Rattle.command_words.specs.rules.Seeds.{seeded_bytes, words_for}

-- the stream of a seed's words at which a source begins, before it goes on after a worker
abbrev pub random_stream : ℕ
random_stream = 1

-- A clock that is fixed shows that time. Else it is the machine's.
abbrev pub IsTimeOf : Outside → ℕ → Type 0
IsTimeOf outside n = IfSome outside.clock (λ fixed. n ≡ fixed)

-- a time in nanoseconds as a number of 64 bits: beyond these it is the greatest of them
pub record IsNanoseconds (time n : ℕ) : Type 0 where
  pub within : time < 2 ^ 64 → n ≡ time
  pub beyond : 2 ^ 64 ≤ time → n ≡ 2 ^ 64 - 1

-- a number for a time that the machine's clock has given
abbrev pub IsRealTime : (ℕ → Bool) → ℕ → Type 0
IsRealTime gives n = (time : ℕ) × IsTrue (gives time) × IsNanoseconds time n

-- how many words of the seed an answer takes
abbrev pub words_in : Answer → ℕ
words_in (answer.Random bytes) = words_for (length bytes)
words_in _ = 0

-- how many words these answers take
abbrev pub words_of : List Kept → ℕ
words_of [] = 0
words_of (Given a ∷ kept) = words_in a + words_of kept
words_of (Wider steps ∷ kept) = words_of kept
words_of (Succeeds o ∷ kept) = words_of kept

-- A time is one of the clock, and random bytes are those of the next words of this stream of the
-- seed, where so many were taken before.
abbrev pub ComesFrom : Outside → ℕ → ℕ → Answer → Type 0
ComesFrom outside stream place (answer.Realtime n) = IsTimeOf outside n
ComesFrom outside stream place (answer.Monotonic n) = IsTimeOf outside n
ComesFrom outside stream place (answer.Random bytes) =
    bytes ≡ seeded_bytes outside.seed stream place (length bytes)
ComesFrom outside stream place _ = ⊤

-- so does each of these answers, in their order
abbrev pub ComeFrom : Outside → ℕ → ℕ → List Kept → Type 0
ComeFrom outside stream place [] = ⊤
ComeFrom outside stream place (Given a ∷ kept) =
    ComesFrom outside stream place a × ComeFrom outside stream (place + words_in a) kept
ComeFrom outside stream place (Wider steps ∷ kept) = ComeFrom outside stream place kept
ComeFrom outside stream place (Succeeds o ∷ kept) = ComeFrom outside stream place kept

-- an answer that a request line gives
abbrev pub request_in : Answer → List Kept
request_in (answer.Request text) = Given (answer.Request text) ∷ []
request_in answer.End = Given answer.End ∷ []
request_in _ = []

-- those of these answers that request lines give
abbrev pub requests_in : List Kept → List Kept
requests_in [] = []
requests_in (Given a ∷ kept) = request_in a ++ requests_in kept
requests_in (Wider steps ∷ kept) = requests_in kept
requests_in (Succeeds o ∷ kept) = requests_in kept
