-- Answers from the outside as a script says them, and records as `wasmhost history` prints them
-- (this project's own).
use Rattle.std.specs.Prelude.{ℕ, Bool, not, ◌&&◌, List, ◌++◌, codes, if◌then◌else◌}
use Rattle.std.specs.Char.{is_ascii_control}
use Rattle.std.specs.Fmt.{decimal}
use Rattle.std.specs.List.{list_any}
use Rattle.std.specs.Str.{is_utf8}
use Rattle.hex.specs.Hex.{encode_lower}
use Rattle.wasi_abi.specs.declared.answer.Answer.{Answer}
use Rattle.wasi_abi.specs.declared.answer.Answer.TheVariants as answer
use Rattle.disk_layout.specs.rules.Journal.{Record}
use Rattle.command_words.specs.rules.Texts.{named_number}

-- an answer as a script of `story` says it, without its newline
abbrev pub answer_words : Answer → List ℕ
answer_words (answer.Request text) = codes "request " ++ text
answer_words answer.End = codes "end"
answer_words (answer.Realtime n) = named_number (codes "realtime ") n
answer_words (answer.Monotonic n) = named_number (codes "monotonic ") n
answer_words (answer.Random bytes) = codes "random " ++ encode_lower bytes

-- a text of UTF-8 without control bytes: those below 32, and 127
abbrev pub is_printable : List ℕ → Bool
is_printable text = is_utf8 text && not (list_any is_ascii_control text)

-- A text as a line tells it: as it is, or by the digits of its bytes where it isn't printable.
abbrev pub told_text : List ℕ → List ℕ
told_text text = if is_printable text then text else encode_lower text

-- which of the two it is, in the line of a request
abbrev pub request_letter : List ℕ → List ℕ
request_letter text = if is_printable text then codes " r " else codes " x "

-- A request as the input of `run` has it: its number, `r` and its text. Of a text that isn't
-- printable it has `x` in place of `r`.
abbrev pub numbered_request : ℕ → List ℕ → List ℕ
numbered_request number text = decimal number ++ request_letter text ++ told_text text

-- What was answered. A request, or their end, has this number.
abbrev pub numbered_words : ℕ → Answer → List ℕ
numbered_words number (answer.Request text) = codes "request " ++ numbered_request number text
numbered_words number answer.End = codes "end " ++ decimal number ++ codes " e"
numbered_words number other = answer_words other

-- a record: its step, what was answered, and a newline
abbrev pub record_line : ℕ → Record → List ℕ
record_line number r =
    decimal r.step ++ codes " " ++ numbered_words number r.answer ++ codes "\n"
