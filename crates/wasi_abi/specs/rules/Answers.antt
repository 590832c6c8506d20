-- Answers from outside, and when one fits what is asked for (this project's own).
use Rattle.std.specs.Prelude.{◌≡◌, ◌≢◌, ℕ, ◌<◌, ◌≤◌, ◌^◌, List, length}
use Rattle.std.specs.List.{AllByRecursion}
use Rattle.guest_memory.specs.rules.Bytes.{IsByte}
use Rattle.wasi_abi.specs.declared.answer.Question.{Question}
use Rattle.wasi_abi.specs.declared.answer.Question.TheVariants as question
use Rattle.wasi_abi.specs.declared.answer.Answer.{Answer}
use Rattle.wasi_abi.specs.declared.answer.Answer.TheVariants as answer

-- the byte that ends a line
abbrev pub newline : ℕ
newline = 10

-- another byte than that
abbrev pub IsNoNewline : ℕ → Type 0
IsNoNewline b = b ≢ newline

-- each number is below 256
abbrev pub AreBytes : List ℕ → Type 0
AreBytes bytes = AllByRecursion IsByte bytes

-- the text of a request: at most so many bytes, none of them a newline
pub record IsRequestText (limit : ℕ) (text : List ℕ) : Type 0 where
  pub short : length text ≤ limit
  pub are_bytes : AreBytes text
  pub no_newline : AllByRecursion IsNoNewline text

-- nanoseconds have 64 bits
abbrev pub IsTime : ℕ → Type 0
IsTime n = n < 2 ^ 64

-- so many bytes
pub record AreSoManyBytes (n : ℕ) (bytes : List ℕ) : Type 0 where
  pub count : length bytes ≡ n
  pub are_bytes : AreBytes bytes

-- A request is answered by a text or by the end of input, a clock by its value, a question for
-- random bytes by as many.
abbrev pub Fits : ℕ → Question → Answer → Type 0
Fits limit question.Request (answer.Request text) = IsRequestText limit text
Fits limit question.Request answer.End = Unit {0}
Fits limit question.Realtime (answer.Realtime n) = IsTime n
Fits limit question.Monotonic (answer.Monotonic n) = IsTime n
Fits limit (question.Random n) (answer.Random bytes) = AreSoManyBytes n bytes
Fits limit _ _ = ⊥
