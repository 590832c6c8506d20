-- Where records lead, and that they lead there alone.
use Rattle.std.proofs.Common.{◌≡◌, ℕ, suc, ◌+◌, ◌-◌, ◌<◌, ◌≤◌, List, [], ◌∷◌}
use Rattle.std.proofs.Common.{◌++◌, Some, None, refl, sym, ◌∙◌, ap, subst, arith}
use Rattle.std.specs.Prelude.{map}
use Rattle.disk_layout.specs.declared.record.Record.{Record}
use Rattle.process_rules.specs.Processes.{ProcessState, Guest}
use Rattle.process_rules.specs.Runs.{Moves, Kept, Given, Runs, none as no_step, take}
use Rattle.process_rules.proofs.Growing.{move_counts, runs_count, runs_emit}
use Rattle.process_rules.proofs.OneProcess.{runs_once}
use Rattle.process_rules.proofs.Quiet.{runs_join}
use Rattle.wasi_calls_rules.specs.laws.Laws.{Emits}
use Rattle.record_replay.specs.rules.Records.{Recorded, none, more, given_in}
use Rattle.record_replay.specs.rules.Replays.{FitsNowhere}
use Rattle.record_replay.proofs.OnTheWay.{goes_on, first_moves}

-- ---- runs

pub record RunsOn (guest : Guest) (p : ProcessState) (kept : List Kept) (q : ProcessState)
    : Type 0 where
  pub steps : ℕ
  pub runs : Runs guest p kept steps q

-- what records lead to is reached on their answers
pub recorded_runs : (guest : Guest) (p q : ProcessState) (records : List Record)
    → Recorded guest p records q → RunsOn guest p (map given_in records) q
recorded_runs guest p q records (none {p = p'}) = record { steps = 0; runs = no_step }
recorded_runs guest p q records
    (more {p = p'} {q = before} {r = after} {s = last} {a = a} {n = n} {records = rest} first moves
    recorded) =
    let on = recorded_runs guest after last rest recorded in
    record {
      steps = n + suc on.steps;
      runs = runs_join guest p' before last [] (Given a ∷ map given_in rest) n (suc on.steps) first
          (take moves on.runs);
    }

pub recorded_emit : (guest : Guest) (p q : ProcessState) (records : List Record)
    → Recorded guest p records q → Emits p.host q.host
recorded_emit guest p q records recorded =
    let on = recorded_runs guest p q records recorded in
    runs_emit guest p q (map given_in records) on.steps on.runs

pub recorded_count : (guest : Guest) (p q : ProcessState) (records : List Record)
    → Recorded guest p records q → p.steps ≤ q.steps
recorded_count guest p q records recorded =
    let on = recorded_runs guest p q records recorded in
    let counted = runs_count guest p q (map given_in records) on.steps on.runs in
    omega arith

pub recorded_join : (guest : Guest) (p q r : ProcessState) (front rest : List Record)
    → Recorded guest p front q → Recorded guest q rest r → Recorded guest p (front ++ rest) r
recorded_join guest p q r front rest none second = second
recorded_join guest p q r front rest
    (more {p = p'} {q = before} {r = after} {s = last} {a = a} {n = n} {records = others} first
    moves recorded) second =
    more first moves (recorded_join guest after last r others rest recorded second)

-- one record more: so many steps, and one that takes its answer
pub recorded_once : (guest : Guest) (p q r : ProcessState) (n : ℕ) (entry : Record)
    → Runs guest p [] n q → Moves guest q (Some entry.answer) r → r.steps ≡ entry.step
    → Recorded guest p (entry ∷ []) r
recorded_once guest p q r n entry runs moves same =
    subst (λ z. Recorded guest p (record { step = z; answer = entry.answer } ∷ []) r) same
    (more runs moves none)

-- ---- one record alone

-- so many steps lead to the one that takes the record's answer
pub record TakenOnce (guest : Guest) (p : ProcessState) (entry : Record) (q : ProcessState)
    : Type 0 where
  pub steps : ℕ
  pub before : ProcessState
  pub runs : Runs guest p [] steps before
  pub moves : Moves guest before (Some entry.answer) q
  pub same : q.steps ≡ entry.step

no_more : (guest : Guest) (p q : ProcessState) (records : List Record) → records ≡ []
    → Recorded guest p records q → p ≡ q
no_more guest p q records e none = refl
no_more guest p q records e (more first moves recorded) = absurd (cc)

once_of : (guest : Guest) (p q : ProcessState) (records : List Record) (entry : Record)
    → records ≡ entry ∷ [] → Recorded guest p records q → TakenOnce guest p entry q
once_of guest p q records entry e none = absurd (cc)
once_of guest p q records entry e
    (more {p = p'} {q = before} {r = after} {s = last} {a = a} {n = n} {records = others} first
    moves recorded) =
    let head : record { step = after.steps; answer = a } ≡ entry = cc in
    let tail : others ≡ [] = cc in
    let same : after ≡ last = no_more guest after last others tail recorded in
    let answer : a ≡ entry.answer = ap (λ (z : Record). z.answer) head in
    let number : after.steps ≡ entry.step = ap (λ (z : Record). z.step) head in
    record {
      steps = n;
      before = before;
      runs = first;
      moves = subst (λ z. Moves guest before (Some entry.answer) z) same
          (subst (λ z. Moves guest before (Some z) after) answer moves);
      same = ap (λ (z : ProcessState). z.steps) (sym same) ∙ number;
    }

pub taken_once : (guest : Guest) (p q : ProcessState) (entry : Record)
    → Recorded guest p (entry ∷ []) q → TakenOnce guest p entry q
taken_once guest p q entry recorded = once_of guest p q (entry ∷ []) entry refl recorded

-- how many steps lead to it
pub once_counts : (guest : Guest) (p q : ProcessState) (entry : Record)
    → (once : TakenOnce guest p entry q) → suc (p.steps + once.steps) ≡ entry.step
once_counts guest p q entry once =
    let counted = runs_count guest p once.before [] once.steps once.runs in
    let last = move_counts guest once.before q (Some entry.answer) once.moves in
    let same = once.same in
    omega arith

-- ---- records that fit nowhere

-- its step is behind
pub behind_fits_nowhere : (guest : Guest) (p : ProcessState) (entry : Record)
    → entry.step ≤ p.steps → FitsNowhere guest p entry
behind_fits_nowhere guest p entry le q recorded =
    let once = taken_once guest p q entry recorded in
    let counted = once_counts guest p q entry once in
    omega arith

-- a process stands still before its step
pub still_fits_nowhere : (guest : Guest) (p q : ProcessState) (n : ℕ) (entry : Record)
    → Runs guest p [] n q → ((r : ProcessState) → Moves guest q None r → ⊥)
    → suc (p.steps + n) < entry.step → FitsNowhere guest p entry
still_fits_nowhere guest p q n entry runs still less r recorded =
    let once = taken_once guest p r entry recorded in
    let counted = once_counts guest p r entry once in
    let k : ℕ = once.steps - suc n in
    let e : once.steps ≡ n + suc k = omega arith in
    let first = first_moves guest q once.before k
    (goes_on guest p q once.before [] n once.steps k runs once.runs e) in
    still first.0 first.1

-- at its step its answer isn't taken
pub refused_fits_nowhere : (guest : Guest) (p q : ProcessState) (n : ℕ) (entry : Record)
    → Runs guest p [] n q → ((r : ProcessState) → Moves guest q (Some entry.answer) r → ⊥)
    → suc (p.steps + n) ≡ entry.step → FitsNowhere guest p entry
refused_fits_nowhere guest p q n entry runs refused same r recorded =
    let once = taken_once guest p r entry recorded in
    let counted = once_counts guest p r entry once in
    let few : n ≡ once.steps = omega arith in
    let there : once.before ≡ q = runs_once guest p once.before q [] once.steps once.runs
    (subst (λ z. Runs guest p [] z q) few runs) in
    refused r (subst (λ z. Moves guest z (Some entry.answer) r) there once.moves)
