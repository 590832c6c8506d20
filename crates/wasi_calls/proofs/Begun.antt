-- The lines that bytes begin are those that a write adds, unfinished ones counted.
use Rattle.std.proofs.Common.{◌≡◌, ℕ, suc, ◌+◌, ◌≤◌, List, [], ◌∷◌, ◌++◌, length}
use Rattle.std.proofs.Common.{refl, ap, ◌∙◌, arith, length-append}
use Rattle.std.specs.Prelude.{Bool, true, false, if◌then◌else◌, ◌==◌, nat_lt}
use Rattle.std.proofs.lemmas.Bool.{eqb-true}
use Rattle.wasi_abi.specs.rules.Answers.{newline}
use Rattle.wasi_calls_rules.specs.WasiStates.{Line, WasiState}
use Rattle.wasi_calls_rules.specs.Lines.{Cut, cut_byte, cut_all, rest_of, stream_written}
use Rattle.wasi_calls_rules.specs.Lines.{lines_ended}
use Rattle.wasi_calls_rules.specs.declared.limits.TheConstants.{LINE_BYTES}
use Rattle.wasi_calls_rules.specs.declared.output_stream.OutputStream.{OutputStream}
use Rattle.wasi_calls_rules.specs.declared.output_stream.OutputStream.TheVariants.{Stdout, Stderr}
use Rattle.wasi_calls.specs.rules.Outputs.{count_begun}
use Rattle.wasi_calls.specs.Writes.{unfinished_of}
use Rattle.wasi_calls.proofs.Cuts.{put_by}

-- ---- one byte

-- the lines of a cut, the unfinished one counted
abbrev with_rest : OutputStream → Cut → ℕ
with_rest stream c = length c.lines + length (rest_of stream c.unfinished)

-- what a byte and others begin: by whether it is a newline, nothing is unfinished, and there is
-- room
abbrev begun_by : Bool → Bool → Bool → ℕ → List ℕ → ℕ
begun_by p z q len bytes =
    if p then (if z then count_begun 0 bytes + 1 else count_begun 0 bytes)
    else if z then count_begun 1 bytes + 1
    else if q then count_begun (len + 1) bytes
    else count_begun 1 bytes + 1

abbrev cut_of : List Line → List ℕ → Cut
cut_of lines text = record { lines = lines; unfinished = text }

abbrev Counts : OutputStream → Cut → Cut → List ℕ → ℕ → Type 0
Counts stream c d bytes n =
    with_rest stream d + count_begun (length d.unfinished) bytes ≡ with_rest stream c + n

module _ (stream : OutputStream) (lines : List Line) (b : ℕ) (bytes : List ℕ) where
  -- the line that is emitted
  abbrev line_of : List ℕ → Line
  line_of text = record { stream = stream; text = text }

  first_byte : (p : Bool) → Counts stream (cut_of lines [])
      (put_by stream (cut_of lines []) b p true) bytes (begun_by p true true 0 bytes)
  first_byte true = omega (arith, length-append lines (line_of [] ∷ []))
  first_byte false = omega arith

  further_byte : (x : ℕ) (text : List ℕ) (p q : Bool)
      → Counts stream (cut_of lines (x ∷ text)) (put_by stream (cut_of lines (x ∷ text)) b p q)
      bytes
      (begun_by p false q (length (x ∷ text)) bytes)
  further_byte x text true q = omega (arith, length-append lines (line_of (x ∷ text) ∷ []))
  further_byte x text false true =
      let longer : suc (length (text ++ b ∷ [])) ≡ suc (length text) + 1 =
      omega (arith, length-append text (b ∷ [])) in
      ap (λ (n : ℕ). with_rest stream (cut_of lines (x ∷ text)) + count_begun n bytes) longer
  further_byte x text false false = omega (arith, length-append lines (line_of (x ∷ text) ∷ []))

  byte_counts : (text : List ℕ) → Counts stream (cut_of lines text)
      (cut_byte stream (cut_of lines text) b) bytes (count_begun (length text) (b ∷ bytes))
  byte_counts [] = first_byte (b == newline)
  byte_counts (x ∷ text) =
      let some : (length (x ∷ text) == 0) ≡ false = some_unfinished (length (x ∷ text) == 0) refl in
      rw some (further_byte x text (b == newline) (nat_lt (length (x ∷ text)) LINE_BYTES))
    where
      some_unfinished : (z : Bool) → (length (x ∷ text) == 0) ≡ z → z ≡ false
      some_unfinished true e = absurd (omega (arith, eqb-true (length (x ∷ text)) 0 e))
      some_unfinished false e = refl

-- ---- a write

all_count : (stream : OutputStream) (c : Cut) (bytes : List ℕ)
    → with_rest stream (cut_all stream c bytes)
    ≡ with_rest stream c + count_begun (length c.unfinished) bytes
all_count stream c [] = omega arith
all_count stream c (b ∷ bytes) =
    let d : Cut = cut_byte stream c b in
    all_count stream d bytes ∙ byte_counts stream c.lines b bytes c.unfinished

-- lines, and those that an end emits after them
all_three : (lines : List Line) (first second : List ℕ)
    → length (lines ++ (rest_of Stdout first ++ rest_of Stderr second))
    ≡ length lines + length (rest_of Stdout first) + length (rest_of Stderr second)
all_three lines first second =
    omega (
      arith,
      length-append lines (rest_of Stdout first ++ rest_of Stderr second),
      length-append (rest_of Stdout first) (rest_of Stderr second),
    )

pub stream_begins : (stream : OutputStream) (bytes : List ℕ) (h : WasiState)
    → length (lines_ended (stream_written stream bytes h)).lines
    ≡ length (lines_ended h).lines + count_begun (length (unfinished_of stream h)) bytes
stream_begins Stdout bytes h =
    let c = cut_all Stdout (cut_of h.lines h.first) bytes in
    omega (
      arith,
      all_count Stdout (cut_of h.lines h.first) bytes,
      all_three h.lines h.first h.second,
      all_three c.lines c.unfinished h.second,
    )
stream_begins Stderr bytes h =
    let c = cut_all Stderr (cut_of h.lines h.second) bytes in
    omega (
      arith,
      all_count Stderr (cut_of h.lines h.second) bytes,
      all_three h.lines h.first h.second,
      all_three c.lines h.first c.unfinished,
    )

-- ---- a loop over bytes

-- ---- they are few

pub begun_few : (len : ℕ) (bytes : List ℕ) → count_begun len bytes ≤ length bytes
begun_few len [] = omega arith
begun_few len (b ∷ bytes) =
    either_way (b == newline) (len == 0) (nat_lt len LINE_BYTES) (begun_few 0 bytes)
    (begun_few (len + 1) bytes) (begun_few 1 bytes)
  where
    either_way : (p z q : Bool) → count_begun 0 bytes ≤ length bytes
        → count_begun (len + 1) bytes ≤ length bytes → count_begun 1 bytes ≤ length bytes
        → begun_by p z q len bytes ≤ length (b ∷ bytes)
    either_way true true q none longer one = omega arith
    either_way true false q none longer one = omega arith
    either_way false true q none longer one = omega arith
    either_way false false true none longer one = omega arith
    either_way false false false none longer one = omega arith
