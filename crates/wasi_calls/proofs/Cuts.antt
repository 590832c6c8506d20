-- Bytes of a stream, cut one after another: what goes on, what is in front, and what stays true of
-- the unfinished line.
use Rattle.std.proofs.Common.{◌≡◌, ℕ, suc, ◌+◌, ◌-◌, ◌≤◌, List, [], ◌∷◌, ◌++◌, length, take}
use Rattle.std.proofs.Common.{take_at, refl, sym, ap, ◌∙◌, arith, append_assoc, length-append}
use Rattle.std.specs.Prelude.{Bool, true, false, cond, if◌then◌else◌, ◌==◌, ◌&&◌, not, nat_lt}
use Rattle.std.specs.List.{prefix_len}
use Rattle.wasi_calls_rules.specs.Checks.{has_no_newline}
use Rattle.std.proofs.lemmas.Bool.{lt-ltb}
use Rattle.std.proofs.lemmas.List.{append-nil}
use Rattle.wasi_abi.specs.rules.Answers.{newline}
use Rattle.wasi_calls_rules.specs.WasiStates.{Line}
use Rattle.wasi_calls_rules.specs.Lines.{Cut, cut_byte, cut_all}
use Rattle.wasi_calls_rules.specs.declared.limits.TheConstants.{LINE_BYTES}
use Rattle.wasi_calls_rules.specs.declared.output_stream.OutputStream.{OutputStream}
use Rattle.wasi_calls.proofs.Endings.{is_text}

-- ---- one more byte of a list

-- ---- lines in front

-- the cut with other lines in front of its own
abbrev pub behind_cut : List Line → Cut → Cut
behind_cut before c = record { lines = before ++ c.lines; unfinished = c.unfinished }

-- a byte that ends the line, or begins the next one
abbrev pub put_by : OutputStream → Cut → ℕ → Bool → Bool → Cut
put_by stream c b is_end is_short =
    if is_end then record {
      lines = c.lines ++ record { stream = stream; text = c.unfinished } ∷ [];
      unfinished = [];
    }
    else if is_short then record { lines = c.lines; unfinished = c.unfinished ++ b ∷ [] }
    else record {
      lines = c.lines ++ record { stream = stream; text = c.unfinished } ∷ [];
      unfinished = b ∷ [];
    }

put_behind : (before : List Line) (stream : OutputStream) (c : Cut) (b : ℕ) (p q : Bool)
    → put_by stream (behind_cut before c) b p q ≡ behind_cut before (put_by stream c b p q)
put_behind before stream c b true q = rw append_assoc refl
put_behind before stream c b false true = refl
put_behind before stream c b false false = rw append_assoc refl

byte_behind : (before : List Line) (stream : OutputStream) (c : Cut) (b : ℕ)
    → cut_byte stream (behind_cut before c) b ≡ behind_cut before (cut_byte stream c b)
byte_behind before stream c b =
    put_behind before stream c b (b == newline) (nat_lt (length c.unfinished) LINE_BYTES)

pub all_behind : (before : List Line) (stream : OutputStream) (c : Cut) (bytes : List ℕ)
    → cut_all stream (behind_cut before c) bytes ≡ behind_cut before (cut_all stream c bytes)
all_behind before stream c [] = refl
all_behind before stream c (b ∷ bytes) =
    rw (byte_behind before stream c b) (all_behind before stream (cut_byte stream c b) bytes)

-- ---- what one write makes of lines that wait

-- the lines that were emitted before don't matter
pub from_nothing : (stream : OutputStream) (before : List Line) (text bytes : List ℕ)
    → cut_all stream (record { lines = before; unfinished = text }) bytes
    ≡ behind_cut before (cut_all stream (record { lines = []; unfinished = text }) bytes)
from_nothing stream before text bytes =
    let start : record {
      lines = before;
      unfinished = text;
    } ≡ behind_cut before (record {
      lines = [];
      unfinished = text;
    }) = ap (λ (ls : List Line). record {
      lines = ls;
      unfinished = text;
    }) (sym (append-nil before)) in
    ap (λ (c : Cut). cut_all stream c bytes) start ∙ all_behind before stream (record {
      lines = [];
      unfinished = text;
    }) bytes

pub written_cut : (stream : OutputStream) (before lines after : List Line)
    (text rest bytes : List ℕ) (c : Cut)
    → c ≡ cut_all stream (record { lines = []; unfinished = text }) bytes → lines ≡ c.lines
    → rest ≡ c.unfinished → after ≡ before ++ lines
    → cut_all stream (record { lines = before; unfinished = text }) bytes ≡ record {
      lines = after;
      unfinished = rest;
    }
written_cut stream before lines after text rest bytes c is cut rest_is put =
    from_nothing stream before text bytes ∙ rw (put, cut, rest_is, is) refl

-- ---- bytes that end no line

halves : (p t : Bool) → (not p && t) ≡ true → (p ≡ false) × (t ≡ true)
halves false t e = (refl, e)
halves true t e = absurd (cc)

put_onto : (stream : OutputStream) (c : Cut) (b : ℕ) (p q : Bool) → p ≡ false → q ≡ true
    → put_by stream c b p q ≡ record { lines = c.lines; unfinished = c.unfinished ++ b ∷ [] }
put_onto stream c b p q e f = rw (e, f) refl

pub cut_onto : (stream : OutputStream) (lines : List Line) (text bytes : List ℕ)
    → length text + length bytes ≤ LINE_BYTES → has_no_newline bytes ≡ true
    → cut_all stream (record { lines = lines; unfinished = text }) bytes
    ≡ record { lines = lines; unfinished = text ++ bytes }
cut_onto stream lines text [] few none = rw append-nil refl
cut_onto stream lines text (b ∷ bytes) few none =
    let both = halves (b == newline) (has_no_newline bytes) none in
    let room : nat_lt (length text) LINE_BYTES ≡ true =
    lt-ltb (length text) LINE_BYTES (omega (arith, few)) in
    let onto = put_onto stream (record { lines = lines; unfinished = text }) b (b == newline)
    (nat_lt (length text) LINE_BYTES) both.0 room in
    ap (λ (d : Cut). cut_all stream d bytes) onto
    ∙ cut_onto stream lines (text ++ b ∷ []) bytes
    (omega (arith, few, length-append text (b ∷ []))) both.1
    ∙ ap (λ (xs : List ℕ). record { lines = lines; unfinished = xs })
    (append_assoc text (b ∷ []) bytes)

-- ---- bytes that end one line, by their last byte

-- the cut once all bytes but the last one are a line
abbrev pub ended_cut : OutputStream → List Line → List ℕ → Cut
ended_cut stream lines bytes = record {
  lines = lines ++ record { stream = stream; text = take (length bytes - 1) bytes } ∷ [];
  unfinished = [];
}

but_last : (text : List ℕ) (b : ℕ) → take (length (text ++ b ∷ []) - 1) (text ++ b ∷ []) ≡ text
but_last text b =
    let size = length-append text (b ∷ []) in
    take_at text (b ∷ []) (length (text ++ b ∷ []) - 1) (omega (arith, size))

put_end : (stream : OutputStream) (c : Cut) (b : ℕ) (p q : Bool) → p ≡ true
    → put_by stream c b p q ≡ record {
      lines = c.lines ++ record { stream = stream; text = c.unfinished } ∷ [];
      unfinished = [];
    }
put_end stream c b p q e = rw e refl

newline_last : (stream : OutputStream) (lines : List Line) (text : List ℕ) (b : ℕ)
    (bytes : List ℕ) → (b == newline) ≡ true → length bytes ≡ 0
    → cut_all stream (record { lines = lines; unfinished = text }) (b ∷ bytes)
    ≡ ended_cut stream lines (text ++ b ∷ bytes)
newline_last stream lines text b [] e none =
    put_end stream (record { lines = lines; unfinished = text }) b (b == newline)
    (nat_lt (length text) LINE_BYTES) e
    ∙ ap (λ (xs : List ℕ). record {
      lines = lines ++ record { stream = stream; text = xs } ∷ [];
      unfinished = [];
    }) (sym (but_last text b))
newline_last stream lines text b (x ∷ bytes) e none = absurd (omega (arith, none))

pub cut_at_end : (stream : OutputStream) (lines : List Line) (text bytes : List ℕ)
    → length text + prefix_len is_text bytes ≤ LINE_BYTES
    → prefix_len is_text bytes + 1 ≡ length bytes
    → cut_all stream (record { lines = lines; unfinished = text }) bytes
    ≡ ended_cut stream lines (text ++ bytes)
cut_at_end stream lines text [] few last = absurd (omega (arith, last))
cut_at_end stream lines text (b ∷ bytes) few last =
    by_test (b == newline) refl few last (cut_at_end stream lines (text ++ b ∷ []) bytes) where
      by_test : (p : Bool) → (b == newline) ≡ p
          → length text + cond (not p) (1 + prefix_len is_text bytes) 0 ≤ LINE_BYTES
          → cond (not p) (1 + prefix_len is_text bytes) 0 + 1 ≡ suc (length bytes)
          → (length (text ++ b ∷ []) + prefix_len is_text bytes ≤ LINE_BYTES
          → prefix_len is_text bytes + 1 ≡ length bytes
          → cut_all stream (record { lines = lines; unfinished = text ++ b ∷ [] }) bytes
          ≡ ended_cut stream lines ((text ++ b ∷ []) ++ bytes))
          → cut_all stream (record { lines = lines; unfinished = text }) (b ∷ bytes)
          ≡ ended_cut stream lines (text ++ b ∷ bytes)
      by_test true e few last rest = newline_last stream lines text b bytes e (omega (arith, last))
      by_test false e few last rest =
          let room : nat_lt (length text) LINE_BYTES ≡ true =
          lt-ltb (length text) LINE_BYTES (omega (arith, few)) in
          let onto = put_onto stream (record { lines = lines; unfinished = text }) b (b == newline)
          (nat_lt (length text) LINE_BYTES) e room in
          ap (λ (d : Cut). cut_all stream d bytes) onto
          ∙ rest (omega (arith, few, length-append text (b ∷ []))) (omega (arith, last))
          ∙ ap (ended_cut stream lines) (append_assoc text (b ∷ []) bytes)
