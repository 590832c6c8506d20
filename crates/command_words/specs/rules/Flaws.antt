-- What is wrong with a request line that is refused (this project's own).
use Rattle.std.specs.Prelude.{◌≡◌, ◌⊎◌, ⊤, ℕ, ◌-◌, ◌<◌, ◌^◌, ◌==◌, ◌&&◌, Bool, true, false, not}
use Rattle.std.specs.Prelude.{List, [], ◌∷◌, ◌++◌, length, codes, Option, Some, None}
use Rattle.std.specs.Char.{is_ascii_digit}
use Rattle.std.specs.Fmt.{decimal}
use Rattle.std.specs.List.{list_all}
use Rattle.wasi_abi.specs.declared.version.Version.{Version}
use Rattle.wasi_abi.specs.declared.version.Version.TheVariants.{One, Two}
use Rattle.command_words.specs.declared.lines.fault.LineFault.{LineFault}
use Rattle.command_words.specs.declared.lines.fault.LineFault.TheVariants as fault
use Rattle.command_words.specs.declared.lines.flaw.LineFlaw.{LineFlaw}
use Rattle.command_words.specs.declared.lines.flaw.LineFlaw.TheVariants.{Long, Cut, Far, Form}
use Rattle.command_words.specs.declared.lines.request.Request.{Request}
use Rattle.command_words.specs.declared.lines.request.Request.TheVariants as request
use Rattle.command_words.specs.rules.Numbers.{IsNumberedRequest}
use Rattle.command_words.specs.rules.Texts.{IsRequestLine, request_line}

-- the line of some request, with a text of any length
abbrev pub IsAnyRequestLine : List ℕ → Type 0
IsAnyRequestLine line = IsRequestLine (2 ^ 64 - 1) line

-- the digits of a number from 1 on, without zeros in front
abbrev pub is_numeral : List ℕ → Bool
is_numeral [] = false
is_numeral (digit ∷ digits) = not (digit == 48) && list_all is_ascii_digit (digit ∷ digits)

-- It is the line of a request but for its number, which is 2^63 or more. What comes behind the
-- number may have any text.
pub record IsFarRequest (line : List ℕ) : Type 0 where
  pub digits : List ℕ
  pub numeral : is_numeral digits ≡ true
  pub far : (n : ℕ) → n < 2 ^ 63 → digits ≡ decimal n → ⊥
  pub said : List ℕ
  pub is : line ≡ digits ++ 32 ∷ said
  pub form : (said ≡ codes "e") ⊎ ((text : List ℕ) × (said ≡ codes "r " ++ text))

-- how many bytes the text of a request has; the end has none
abbrev pub text_length : Request → ℕ
text_length (request.Text number text) = length text.now
text_length (request.End number) = 0

-- What is wrong with a line that was read, or of which the reader has left a rest, since it is too
-- long. Of a request so many bytes of text are told.
abbrev pub IsFlawOf : Bool → List ℕ → LineFlaw → Type 0
IsFlawOf cut line (Long n) = (cut ≡ false) × (r : Request) × IsNumberedRequest r
    × (line ≡ request_line r) × (n ≡ text_length r)
IsFlawOf cut line Cut = (cut ≡ true) × (r : Request) × IsNumberedRequest r
    × (line ≡ request_line r)
IsFlawOf cut line Far = IsFarRequest line
IsFlawOf cut line Form = (IsAnyRequestLine line → ⊥) × (IsFarRequest line → ⊥)

-- That is wrong with the line that was refused, if it was for its form.
abbrev pub IsFlawIn : Option LineFault → Bool → List ℕ → Option LineFlaw → Type 0
IsFlawIn (Some fault.Form) cut line (Some flaw) = IsFlawOf cut line flaw
IsFlawIn (Some fault.Form) cut line None = ⊥
IsFlawIn other cut line (Some flaw) = ⊥
IsFlawIn other cut line None = ⊤

-- how long a text a worker of this version takes
abbrev pub text_limit_words : Version → List ℕ
text_limit_words One = codes "version 1 takes 4096"
text_limit_words Two = codes "version 2 takes 65536"

-- more than it takes
abbrev pub excess_words : Version → List ℕ
excess_words One = codes "more than 4096 bytes, and version 1 takes 4096"
excess_words Two = codes "more than 65536 bytes, and version 2 takes 65536"

-- What makes it take longer ones, where its disk is at this path: a run that keeps the lines which
-- the upgrade would tell, and then that.
abbrev pub widening_words : List ℕ → Version → List ℕ
widening_words disk One = codes ": wasmhost run " ++ disk
    ++ codes " </dev/null >>LINES, then wasmhost upgrade " ++ disk
widening_words disk Two = []

-- what is told of it, where the worker of the disk at this path is of this version
abbrev pub flaw_words : List ℕ → Version → LineFlaw → List ℕ
flaw_words disk version (Long n) = decimal n ++ codes " bytes, and " ++ text_limit_words version
    ++ widening_words disk version
flaw_words disk version Cut = excess_words version ++ widening_words disk version
flaw_words disk version Far = codes "the number of a request is below 9223372036854775808"
flaw_words disk version Form = codes "a request is N r TEXT or N e, with N from 1 on"

-- on a line of its own, if there is something
abbrev pub flaw_line : List ℕ → Version → Option LineFlaw → List ℕ
flaw_line disk version None = []
flaw_line disk version (Some flaw) = flaw_words disk version flaw ++ codes "\n"
