-- Unfinished lines after a write to a stream.
use Rattle.std.proofs.Common.{◌≡◌, ℕ, Bool, true, false, List, [], ◌∷◌, ◌++◌}
use Rattle.std.proofs.Common.{length, refl, arith, length-append}
use Rattle.std.specs.Prelude.{◌==◌, if◌then◌else◌, nat_lt}
use Rattle.std.proofs.lemmas.Bool.{eq-eqb, ltb-true}
use Rattle.wasi_abi.specs.rules.Answers.{newline, IsNoNewline, AreBytes}
use Rattle.guest_memory.specs.rules.Bytes.{IsByte}
use Rattle.guest_memory.proofs.Lists.{all_both}
use Rattle.wasi_calls_rules.specs.WasiStates.{WasiState, IsUnfinished}
use Rattle.wasi_calls_rules.specs.Lines.{Cut, cut_byte, cut_all, stream_written}
use Rattle.wasi_calls_rules.specs.declared.limits.TheConstants.{LINE_BYTES}
use Rattle.wasi_calls_rules.specs.declared.output_stream.OutputStream.{OutputStream}
use Rattle.wasi_calls_rules.specs.declared.output_stream.OutputStream.TheVariants.{Stdout, Stderr}

-- what holds after a write to either holds after one to a stream
pub stream_either : (P : WasiState → Type 0) (h : WasiState) (s : OutputStream) (bytes : List ℕ)
    → P (stream_written Stdout bytes h) → P (stream_written Stderr bytes h)
    → P (stream_written s bytes h)
stream_either P h Stdout bytes one two = one
stream_either P h Stderr bytes one two = two

-- the unfinished line is one
abbrev pub EndsFine : Cut → Type 0
EndsFine c = IsUnfinished c.unfinished

cut_unfinished : (stream : OutputStream) (c : Cut) (b : ℕ) → IsUnfinished c.unfinished → IsByte b
    → EndsFine (cut_byte stream c b)
cut_unfinished stream c b is byte =
    either (b == newline) (nat_lt (length c.unfinished) LINE_BYTES) refl refl
  where
    no_end : (b == newline) ≡ false → IsNoNewline b
    no_end e same = absurd (let t = eq-eqb b newline same in cc)

    either : (p q : Bool) → (b == newline) ≡ p → nat_lt (length c.unfinished) LINE_BYTES ≡ q
        → EndsFine (if p then (record {
          lines = c.lines ++ record { stream = stream; text = c.unfinished } ∷ [];
          unfinished = [];
        }) else if q then (record { lines = c.lines; unfinished = c.unfinished ++ b ∷ [] })
        else (record {
          lines = c.lines ++ record { stream = stream; text = c.unfinished } ∷ [];
          unfinished = b ∷ [];
        }))
    either true q is_end room = record { short = omega arith; are_bytes = tt; no_newline = tt }
    either false true is_end room =
        let size = length-append c.unfinished (b ∷ []) in
        let less = ltb-true (length c.unfinished) LINE_BYTES room in
        record {
          short = omega (arith, size, less);
          are_bytes = all_both IsByte c.unfinished (b ∷ []) is.are_bytes (byte, tt);
          no_newline = all_both IsNoNewline c.unfinished (b ∷ []) is.no_newline (no_end is_end, tt);
        }
    either false false is_end room =
        record { short = omega arith; are_bytes = (byte, tt); no_newline = (no_end is_end, tt) }

pub nothing_unfinished : IsUnfinished []
nothing_unfinished = record { short = omega arith; are_bytes = tt; no_newline = tt }

pub all_unfinished : (stream : OutputStream) (c : Cut) (bytes : List ℕ) → AreBytes bytes
    → IsUnfinished c.unfinished → IsUnfinished (cut_all stream c bytes).unfinished
all_unfinished stream c [] bytes is = is
all_unfinished stream c (b ∷ more) bytes is =
    all_unfinished stream (cut_byte stream c b) more bytes.1 (cut_unfinished stream c b is bytes.0)
