-- Counts, the phase and streams of two processes, told by their bytes.
use Rattle.std.proofs.Common.{◌≡◌, ℕ, ◌<◌, Bool, true, false, List, [], ◌∷◌, ◌++◌, Option, Some}
use Rattle.std.proofs.Common.{None, refl, sym, ap, ◌∙◌, arith}
use Rattle.std.specs.Prelude.{slice_get}
use Rattle.wasm_syntax.specs.declared.value.Trap.{Trap}
use Rattle.wasm_syntax.specs.declared.value.Trap.TheVariants as trap
use Rattle.wasi_abi.specs.rules.Layouts.{u32_bytes, u64_bytes}
use Rattle.process_rules.specs.Processes.{Ending, Exited, Trapped}
use Rattle.state_image.specs.rules.ProcessImage.{Saved, trap_number, phase_of, ending_code, flag_of}
use Rattle.state_image.specs.rules.ProcessImage.{text_bytes, counts_bytes, phase_bytes}
use Rattle.state_image.specs.rules.ProcessImage.{streams_bytes}
use Rattle.state_image.specs.rules.Ranges.{IsIn, IsShort, FitsCounts, FitsStreams}
use Rattle.state_image.proofs.Fields.{cut, number_field, text_field}
use Rattle.file_tree.proofs.SameNames.{heads}

-- ---- counts

pub record SameCounts (s t : Saved) : Type 0 where
  pub steps : s.steps ≡ t.steps
  pub answers : s.answers ≡ t.answers
  pub requests : s.requests ≡ t.requests
  pub lines : s.lines ≡ t.lines
  pub last_monotonic : s.last_monotonic ≡ t.last_monotonic

-- the counts from one on
abbrev pub from_lines : Saved → List ℕ
from_lines s = u64_bytes s.lines ++ u64_bytes s.last_monotonic

abbrev pub from_requests : Saved → List ℕ
from_requests s = u64_bytes s.requests ++ from_lines s

abbrev pub from_answers : Saved → List ℕ
from_answers s = u64_bytes s.answers ++ from_requests s

pub same_counts : (s t : Saved) (rest other : List ℕ) → FitsCounts s → FitsCounts t
    → counts_bytes s ++ rest ≡ counts_bytes t ++ other → SameCounts s t × (rest ≡ other)
same_counts s t rest other p q e =
    let steps = cut ℕ (IsIn 8) u64_bytes (number_field 8) s.steps t.steps (from_answers s)
    (from_answers t) rest other p.steps q.steps e in
    let answers = cut ℕ (IsIn 8) u64_bytes (number_field 8) s.answers t.answers (from_requests s)
    (from_requests t) rest other p.answers q.answers steps.1 in
    let requests = cut ℕ (IsIn 8) u64_bytes (number_field 8) s.requests t.requests (from_lines s)
    (from_lines t) rest other p.requests q.requests answers.1 in
    let lines = cut ℕ (IsIn 8) u64_bytes (number_field 8) s.lines t.lines
    (u64_bytes s.last_monotonic) (u64_bytes t.last_monotonic) rest other p.lines q.lines
    requests.1 in
    let last = (number_field 8).front s.last_monotonic t.last_monotonic rest other p.last_monotonic
    q.last_monotonic lines.1 in (
      record {
        steps = steps.0;
        answers = answers.0;
        requests = requests.0;
        lines = lines.0;
        last_monotonic = last.0;
      },
      last.1,
    )

-- ---- phase

-- the traps, each at its number
abbrev traps : List Trap
traps = trap.Unreachable ∷ trap.Unreachable ∷ trap.DivideByZero ∷ trap.IntegerOverflow
    ∷ trap.MemoryOutOfBounds ∷ trap.UndefinedElement ∷ trap.UninitializedElement
    ∷ trap.IndirectCallTypeMismatch ∷ trap.StackExhausted ∷ []

at_its_number : (why : Trap) → slice_get traps (trap_number why) ≡ Some why
at_its_number trap.Unreachable = refl
at_its_number _ = refl

same_trap : (a b : Trap) → trap_number a ≡ trap_number b → a ≡ b
same_trap a b e = let same : Some a ≡ Some b = sym (at_its_number a) ∙ ap (slice_get traps) e
    ∙ at_its_number b in cc

pub same_flag : (a b : Bool) → flag_of a ≡ flag_of b → a ≡ b
same_flag true true e = refl
same_flag true false e = absurd (omega (arith, e))
same_flag false true e = absurd (omega (arith, e))
same_flag false false e = refl

running_phase : (later : List ℕ) → phase_of None later < 2
running_phase [] = omega arith
running_phase (f ∷ later) = omega arith

-- phase and code tell how a process has ended
pub same_ending : (a b : Option Ending) (later other : List ℕ)
    → phase_of a later ≡ phase_of b other → ending_code a ≡ ending_code b → a ≡ b
same_ending None None later other e c = refl
same_ending None (Some (Exited code)) later other e c = absurd
    (omega (arith, e, running_phase later))
same_ending None (Some (Trapped why)) later other e c = absurd
    (omega (arith, e, running_phase later))
same_ending (Some (Exited code)) None later other e c = absurd
    (omega (arith, e, running_phase other))
same_ending (Some (Trapped why)) None later other e c = absurd
    (omega (arith, e, running_phase other))
same_ending (Some (Exited code)) (Some (Exited code')) later other e c = ap (λ n. Some (Exited n))
    c
same_ending (Some (Exited code)) (Some (Trapped why)) later other e c = absurd (omega (arith, e))
same_ending (Some (Trapped why)) (Some (Exited code)) later other e c = absurd (omega (arith, e))
same_ending (Some (Trapped why)) (Some (Trapped why')) later other e c = ap (λ w. Some (Trapped w))
    (same_trap why why' c)

pub record SamePhase (s t : Saved) : Type 0 where
  pub phase : phase_of s.ended s.machine.later ≡ phase_of t.ended t.machine.later
  pub ended : s.ended ≡ t.ended
  pub input_ended : s.input_ended ≡ t.input_ended

pub same_phase : (s t : Saved) (rest other : List ℕ) → IsIn 4 (ending_code s.ended)
    → IsIn 4 (ending_code t.ended)
    → phase_bytes s ++ rest ≡ phase_bytes t ++ other → SamePhase s t × (rest ≡ other)
same_phase s t rest other p q e =
    let first = heads _ _ _ _ e in
    let code = cut ℕ (IsIn 4) u32_bytes (number_field 4) (ending_code s.ended)
    (ending_code t.ended) (flag_of s.input_ended ∷ []) (flag_of t.input_ended ∷ []) rest other
    p q first.1 in
    let last = heads (flag_of s.input_ended) (flag_of t.input_ended) rest other code.1 in (
      record {
        phase = first.0;
        ended = same_ending s.ended t.ended s.machine.later t.machine.later first.0 code.0;
        input_ended = same_flag s.input_ended t.input_ended last.0;
      },
      last.1,
    )

-- ---- streams

pub record SameStreams (s t : Saved) : Type 0 where
  pub unread : s.unread ≡ t.unread
  pub first : s.first ≡ t.first
  pub second : s.second ≡ t.second

pub same_streams : (s t : Saved) (rest other : List ℕ) → FitsStreams s → FitsStreams t
    → streams_bytes s ++ rest ≡ streams_bytes t ++ other → SameStreams s t × (rest ≡ other)
same_streams s t rest other p q e =
    let unread = cut (List ℕ) IsShort text_bytes text_field s.unread t.unread
    (text_bytes s.first ++ text_bytes s.second) (text_bytes t.first ++ text_bytes t.second)
    rest other p.unread q.unread e in
    let first = cut (List ℕ) IsShort text_bytes text_field s.first t.first (text_bytes s.second)
    (text_bytes t.second) rest other p.first q.first unread.1 in
    let second = text_field.front s.second t.second rest other p.second q.second first.1 in
    (record { unread = unread.0; first = first.0; second = second.0 }, second.1)
