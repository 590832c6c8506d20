-- Which answers the lines of a reader give (this project's own).
use Rattle.std.specs.Prelude.{◌≡◌, ◌≢◌, ℕ, ◌+◌, ◌<◌, ◌≤◌, List, [], ◌∷◌, ◌++◌, length, Option}
use Rattle.std.specs.Prelude.{IfSome}
use Rattle.std.specs.Io.BufRead.{first_piece, drop_through}
use Rattle.wasi_abi.specs.declared.answer.Answer.{Answer}
use Rattle.wasi_abi.specs.declared.answer.Answer.TheVariants as answer
use Rattle.wasi_abi.specs.rules.Answers.{newline}
use Rattle.process_rules.specs.Runs.{Kept, Given}
use Rattle.command_words.specs.declared.lines.request.Request.{Request}
use Rattle.command_words.specs.declared.lines.request.Request.TheVariants as request
use Rattle.command_words.specs.rules.Numbers.{IsNumberedRequest, request_number}
use Rattle.command_words.specs.rules.Texts.{IsShortRequest, IsRequestLine, request_line}

-- the answer that a request line is
abbrev pub answer_in : Request → Answer
answer_in (request.Text number text) = answer.Request text.now
answer_in (request.End number) = answer.End

-- the first line of these bytes is this request's, with a text of so many bytes at most
pub record BeginsWithRequest (limit : ℕ) (bytes : List ℕ) (r : Request) : Type 0 where
  pub numbered : IsNumberedRequest r
  pub short : IsShortRequest limit r
  pub line : first_piece newline bytes ≡ request_line r

-- The lines in front of the rest give these answers, in order, where so many requests were taken
-- before them. The line of a request that was taken is passed over, and that of the next one is
-- taken. A text has so many bytes at most.
pub data GivesAnswers (limit before : ℕ) (bytes : List ℕ) : List Kept → List ℕ → Type 0 where
  none : GivesAnswers limit before bytes [] bytes
  passed : (kept : List Kept) (rest : List ℕ) (r : Request)
      → GivesAnswers limit before bytes kept rest
      → BeginsWithRequest limit rest r
      → request_number r ≤ before + length kept
      → GivesAnswers limit before bytes kept (drop_through newline rest)
  taken : (kept : List Kept) (rest : List ℕ) (r : Request)
      → GivesAnswers limit before bytes kept rest
      → BeginsWithRequest limit rest r
      → request_number r ≡ before + length kept + 1
      → GivesAnswers limit before bytes (kept ++ Given (answer_in r) ∷ [])
      (drop_through newline rest)

-- the lines, where they are known, give these answers, and this holds of the rest
abbrev pub GiveUpTo : ℕ → ℕ → Option (List ℕ) → List Kept → (List ℕ → Type 0) → Type 0
GiveUpTo limit before lines kept P = IfSome lines (λ bytes. (rest : List ℕ)
    × GivesAnswers limit before bytes kept rest × P rest)

-- there is a first line, and it is no request line
abbrev pub BeginsWithOther : ℕ → List ℕ → Type 0
BeginsWithOther limit bytes =
    (bytes ≢ []) × (IsRequestLine limit (first_piece newline bytes) → ⊥)

-- the first line is that of a request with this number
abbrev pub BeginsWithNumber : ℕ → ℕ → List ℕ → Type 0
BeginsWithNumber limit given bytes = (r : Request) × BeginsWithRequest limit bytes r
    × (request_number r ≡ given)

-- the first line is that of a request beyond the next one, where so many were taken
abbrev pub BeginsWithLater : ℕ → ℕ → List ℕ → Type 0
BeginsWithLater limit before bytes =
    (given : ℕ) × (before + 1 < given) × BeginsWithNumber limit given bytes
