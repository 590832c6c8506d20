-- Steps of rules don't look at the lines that were emitted before: with other lines in front each
-- does the same.
use Rattle.std.proofs.Common.{◌≡◌, ℕ, List, refl}
use Rattle.std.specs.Prelude.{Bool, true, false, if◌then◌else◌}
use Rattle.wasi_abi.specs.declared.answer.Answer.{Answer}
use Rattle.wasi_abi.specs.declared.answer.Answer.TheVariants as answer
use Rattle.file_tree.specs.rules.Files.{Name}
use Rattle.wasi_calls_rules.specs.Paths.{WalkEnd, Self, Leaf}
use Rattle.wasi_calls_rules.specs.Entries.{a_leaf}
use Rattle.wasi_calls_rules.specs.WasiStates.{Line, WasiState}
use Rattle.wasi_calls_rules.specs.Checks.{Bytes, Ruling}
use Rattle.wasi_calls_rules.specs.Small.{time_put, random_put}
use Rattle.wasi_calls.specs.rules.Held.{behind_lines}
use Rattle.wasi_calls.specs.Held.{behind_lines_of_call_rule}

module _ (before : List Line) where
  -- a rule does the same with the lines in front
  abbrev pub IsBehind : (WasiState → Ruling) → WasiState → Type 0
  IsBehind rule h = rule (behind_lines before h) ≡ behind_lines_of_call_rule before (rule h)

  pub either : (b : Bool) (w x y z : Ruling) → w ≡ behind_lines_of_call_rule before y
      → x ≡ behind_lines_of_call_rule before z
      → (if b then w else x) ≡ behind_lines_of_call_rule before (if b then y else z)
  either true w x y z e f = e
  either false w x y z e f = f

  pub leaf_next : (place : WalkEnd) (f g : ℕ → Name → Ruling)
      → ((d : ℕ) (name : Name) → f d name ≡ behind_lines_of_call_rule before (g d name))
      → a_leaf place f ≡ behind_lines_of_call_rule before (a_leaf place g)
  leaf_next (Self k) f g e = refl
  leaf_next (Leaf d name) f g e = e d name

  module _ (m : Bytes) (h : WasiState) where
    pub time_put_behind : (a : Answer) (ret : ℕ) → IsBehind (time_put a ret m) h
    time_put_behind (answer.Monotonic n) ret = refl
    time_put_behind (answer.Realtime n) ret = refl
    time_put_behind _ ret = refl

    pub random_put_behind : (a : Answer) (buf : ℕ) → IsBehind (random_put a buf m) h
    random_put_behind (answer.Random bytes) buf = refl
    random_put_behind _ buf = refl
