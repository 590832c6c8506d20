-- The lines that a worker's reader and writer see (this project's own).
use Rattle.std.specs.Prelude.{ℕ, ◌≡◌, ◌≤◌, List, [], ◌∷◌, ◌++◌, length, map, codes}
use Rattle.std.specs.Borrow.{Bor}
use Rattle.std.specs.Fmt.{decimal}
use Rattle.wasm_syntax.specs.declared.value.Trap.{Trap}
use Rattle.wasm_syntax.specs.declared.value.Trap.TheVariants as trap
use Rattle.wasi_abi.specs.rules.Answers.{newline}
use Rattle.wasi_calls_rules.specs.WasiStates.{Line}
use Rattle.wasi_calls_rules.specs.declared.output_stream.OutputStream.{OutputStream}
use Rattle.wasi_calls_rules.specs.declared.output_stream.OutputStream.TheVariants.{Stdout, Stderr}
use Rattle.command_words.specs.declared.lines.request.Request.{Request}
use Rattle.command_words.specs.declared.lines.request.Request.TheVariants as request
use Rattle.command_words.specs.rules.Numbers.{IsNumberedRequest}

-- the bytes of texts
abbrev pub texts_in : List (Bor (List ℕ)) → List (List ℕ)
texts_in = map (λ text. text.now)

-- the letter of a stream: `o` of the output, and `e` of the error output
abbrev pub letter_of : OutputStream → List ℕ
letter_of Stdout = codes " o "
letter_of Stderr = codes " e "

-- a line as it is printed: its number, the letter of its stream, its text and a newline
abbrev pub printed : ℕ → Line → List ℕ
printed number line = decimal number ++ letter_of line.stream ++ line.text ++ newline ∷ []

-- a request line as it is read, without its newline: its number, and `r` with a text or `e` for the
-- end
abbrev pub request_line : Request → List ℕ
request_line (request.Text number text) = decimal number ++ codes " r " ++ text.now
request_line (request.End number) = decimal number ++ codes " e"

-- the text of a request has so many bytes at most
abbrev pub IsShortRequest : ℕ → Request → Type 0
IsShortRequest limit (request.Text number text) = length text.now ≤ limit
IsShortRequest limit (request.End number) = Unit {0}

-- the line of some request, with a text of so many bytes at most
abbrev pub IsRequestLine : ℕ → List ℕ → Type 0
IsRequestLine limit line = (r : Request) × IsNumberedRequest r × IsShortRequest limit r
    × (line ≡ request_line r)

-- the name of a trap, as it is printed
abbrev pub trap_text : Trap → List ℕ
trap_text trap.Unreachable = codes "unreachable"
trap_text trap.DivideByZero = codes "integer divide by zero"
trap_text trap.IntegerOverflow = codes "integer overflow"
trap_text trap.MemoryOutOfBounds = codes "out of bounds memory access"
trap_text trap.UndefinedElement = codes "undefined element"
trap_text trap.UninitializedElement = codes "uninitialized element"
trap_text trap.IndirectCallTypeMismatch = codes "indirect call type mismatch"
trap_text trap.StackExhausted = codes "stack exhausted"

-- a name, and the digits of a number
abbrev pub named_number : List ℕ → ℕ → List ℕ
named_number name number = name ++ decimal number
