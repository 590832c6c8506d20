-- Each call that is done emits lines after those that were there. Only a write to a stream emits
-- any.
use Rattle.std.proofs.Common.{◌≡◌, ℕ, List, [], ◌∷◌, ◌++◌, ◌≤◌, length, refl, sym, ◌∙◌}
use Rattle.std.proofs.Common.{◌⊎◌, inl, inr, append_assoc}
use Rattle.std.specs.Prelude.{Bool, true, false, if◌then◌else◌, ◌==◌, nat_lt}
use Rattle.std.specs.Prelude.{Option, Some, None, Ok}
use Rattle.std.proofs.lemmas.List.{append-nil}
use Rattle.file_tree.specs.rules.Files.{Path}
use Rattle.wasi_abi.specs.declared.answer.Answer.{Answer}
use Rattle.wasi_abi.specs.declared.call.Call.{Call}
use Rattle.wasi_abi.specs.declared.call.Call.TheVariants as call
use Rattle.wasi_abi.specs.rules.Answers.{newline}
use Rattle.wasi_calls_rules.specs.WasiStates.{Line, WasiState}
use Rattle.wasi_calls_rules.specs.Checks.{Bytes, Done}
use Rattle.wasi_calls_rules.specs.Lines.{Cut, cut_byte, cut_all, stream_written}
use Rattle.wasi_calls_rules.specs.declared.output_stream.OutputStream.{OutputStream}
use Rattle.wasi_calls_rules.specs.declared.output_stream.OutputStream.TheVariants.{Stdout, Stderr}
use Rattle.wasi_calls_rules.specs.Entries.{renamed_over}
use Rattle.wasi_calls_rules.specs.CallRules.{call_rule}
use Rattle.wasi_calls_rules.specs.declared.limits.TheConstants.{LINE_BYTES, MOVED_BYTES}
use Rattle.wasi_calls_rules.specs.laws.Laws.{Emits, CallRulesEmit}
use Rattle.wasi_calls_rules.proofs.WasiStateChanges.{Becomes, stays, writes_stream, renames}
use Rattle.wasi_calls_rules.proofs.CallRuleChanges.{changes}

-- ---- lines

pub emits_none : (before after : WasiState) → after.lines ≡ before.lines → Emits before after
emits_none before after same = record { lines = []; are = same ∙ sym (append-nil before.lines) }

-- the lines of a cut, and others after them
record Longer (before after : Cut) : Type 0 where
  pub lines : List Line
  pub are : after.lines ≡ before.lines ++ lines

longer_none : (c d : Cut) → d.lines ≡ c.lines → Longer c d
longer_none c d same = record { lines = []; are = same ∙ sym (append-nil c.lines) }

longer_on : (c d e : Cut) → Longer c d → Longer d e → Longer c e
longer_on c d e a b = record {
  lines = a.lines ++ b.lines;
  are = rw b.are (rw a.are (append_assoc c.lines a.lines b.lines));
}

byte_longer : (stream : OutputStream) (c : Cut) (b : ℕ) → Longer c (cut_byte stream c b)
byte_longer stream c b = either (b == newline) (nat_lt (length c.unfinished) LINE_BYTES) where
  either : (p q : Bool)
      → Longer c (if p then record {
        lines = c.lines ++ record {
          stream = stream;
          text = c.unfinished;
        } ∷ [];
        unfinished = [];
      }
      else if q then record { lines = c.lines; unfinished = c.unfinished ++ b ∷ [] }
      else record {
        lines = c.lines ++ record { stream = stream; text = c.unfinished } ∷ [];
        unfinished = b ∷ [];
      })
  either true q = record {
    lines = record { stream = stream; text = c.unfinished } ∷ [];
    are = refl;
  }
  either false true =
      longer_none c (record { lines = c.lines; unfinished = c.unfinished ++ b ∷ [] }) refl
  either false false = record {
    lines = record { stream = stream; text = c.unfinished } ∷ [];
    are = refl;
  }

all_longer : (stream : OutputStream) (c : Cut) (bytes : List ℕ) → Longer c (cut_all stream c bytes)
all_longer stream c [] = longer_none c c refl
all_longer stream c (b ∷ bytes) =
    longer_on c (cut_byte stream c b) (cut_all stream (cut_byte stream c b) bytes)
    (byte_longer stream c b) (all_longer stream (cut_byte stream c b) bytes)

stream_emits : (s : OutputStream) (bytes : Bytes) (h : WasiState)
    → Emits h (stream_written s bytes h)
stream_emits Stdout bytes h =
    let longer = all_longer Stdout (record { lines = h.lines; unfinished = h.first }) bytes in
    record { lines = longer.lines; are = longer.are }
stream_emits Stderr bytes h =
    let longer = all_longer Stderr (record { lines = h.lines; unfinished = h.second }) bytes in
    record { lines = longer.lines; are = longer.are }

-- ---- what a call leaves of the lines

-- the lines, and what is unfinished, are as they were
pub record KeepsLines (before after : WasiState) : Type 0 where
  pub lines : after.lines ≡ before.lines
  pub first : after.first ≡ before.first
  pub second : after.second ≡ before.second

-- or bytes were written to a stream, no more than a call moves
pub data WritesFew (before after : WasiState) : Type 0 where
  keeps : KeepsLines before after → WritesFew before after
  writes : (s : OutputStream) (bytes : Bytes) → length bytes ≤ MOVED_BYTES
      → after ≡ stream_written s bytes before → WritesFew before after

-- bytes of `fd_write` to a stream, no more than a call moves
record Written (c : Call) (before after : WasiState) : Type 0 where
  by : c ≡ call.FdWrite
  stream : OutputStream
  bytes : Bytes
  few : length bytes ≤ MOVED_BYTES
  is : after ≡ stream_written stream bytes before

abbrev Lines : Call → WasiState → WasiState → Type 0
Lines c before after = KeepsLines before after ⊎ Written c before after

same : {c : Call} (before after : WasiState) → after.lines ≡ before.lines
    → after.first ≡ before.first → after.second ≡ before.second → Lines c before after
same before after lines first second =
    inl (record { lines = lines; first = first; second = second })

renamed_lines : {c : Call} (h : WasiState) (k : ℕ) (j : Option ℕ) (from to : Path)
    → Lines c h (renamed_over k j from to h)
renamed_lines h k None from to = same h _ refl refl refl
renamed_lines h k (Some j) from to = same h _ refl refl refl

lines : {c : Call} (m : Bytes) (h after : WasiState) → Becomes c m h after → Lines c h after
lines m h _ stays = same h h refl refl refl
lines m h _ (writes_stream s bytes by few k) =
    inr (record { by = by; stream = s; bytes = bytes; few = few; is = refl })
lines m h _ (renames k j from to x) = renamed_lines h k j from to
lines m h _ _ = same h _ refl refl refl

-- ---- all calls

-- a call but `fd_write` leaves the lines as they are
pub call_rules_keep_lines : (c : Call) (arguments : List ℕ) (given : Option Answer) (m : Bytes)
    (h : WasiState) (done : Done) → (c ≡ call.FdWrite → ⊥) → call_rule c arguments
    given m h ≡ Ok done → KeepsLines h done.host
call_rules_keep_lines c arguments given m h done other e =
    but_written (lines m h done.host (changes c arguments given m h done e))
  where
    but_written : Lines c h done.host → KeepsLines h done.host
    but_written (inl k) = k
    but_written (inr w) = absurd (other w.by)

pub call_rules_write_few : (c : Call) (arguments : List ℕ) (given : Option Answer) (m : Bytes)
    (h : WasiState) (done : Done) → call_rule c arguments given m h ≡ Ok done
    → WritesFew h done.host
call_rules_write_few c arguments given m h done e =
    either (lines m h done.host (changes c arguments given m h done e))
  where
    either : Lines c h done.host → WritesFew h done.host
    either (inl k) = keeps k
    either (inr w) = writes w.stream w.bytes w.few w.is

pub call_rules_emit : CallRulesEmit
call_rules_emit c arguments given m h done e = by_case (call_rules_write_few c arguments given m
    h done e) where
      by_case : WritesFew h done.host → Emits h done.host
      by_case (keeps k) = emits_none h done.host k.lines
      by_case (writes s bytes few is) = rw is (stream_emits s bytes h)
