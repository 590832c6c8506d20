-- Records lead to one process, and what is on the way there has no other lines.
use Rattle.std.proofs.Common.{◌≡◌, ◌⊎◌, inl, inr, ℕ, suc, ◌+◌, ◌-◌, ◌<◌, ◌≤◌, List, [], ◌∷◌, ◌++◌}
use Rattle.std.proofs.Common.{Some, refl, sym, ◌∙◌, ap, subst, arith}
use Rattle.std.specs.Prelude.{map}
use Rattle.wasi_calls_rules.specs.laws.Laws.{Emits}
use Rattle.wasi_calls_rules.proofs.EmitsLines.{emits_none}
use Rattle.disk_layout.specs.declared.record.Record.{Record}
use Rattle.process_rules.specs.Processes.{ProcessState, Guest}
use Rattle.process_rules.specs.Runs.{Moves, Runs, none as no_step}
use Rattle.process_rules.proofs.Growing.{emits_on, move_counts, move_emits, runs_count, runs_emit}
use Rattle.process_rules.proofs.OneProcess.{runs_once}
use Rattle.record_replay.specs.rules.Records.{Recorded, none, more, given_in}
use Rattle.record_replay.specs.rules.Replays.{steps_before, FitsNowhere}
use Rattle.record_replay.specs.laws.Laws.{RecordsAreRuns, OneProcessIsRecorded, NextFits}
use Rattle.record_replay.specs.laws.Laws.{RefusedReplaysAreOnTheWay}
use Rattle.record_replay.proofs.OnTheWay.{goes_on}
use Rattle.record_replay.proofs.Recordings.{recorded_runs, recorded_emit, recorded_once}

pub records_are_runs : RecordsAreRuns
records_are_runs guest p q records recorded =
    let on = recorded_runs guest p q records recorded in
    record {
      steps = on.steps;
      runs = on.runs;
      counted = runs_count guest p q (map given_in records) on.steps on.runs;
    }

-- ---- the step of the last record

-- the step of the last record, or this one where there is none
abbrev last_step : ℕ → List Record → ℕ
last_step step [] = step
last_step step (r ∷ records) = last_step r.step records

counted : (guest : Guest) (p q : ProcessState) (records : List Record)
    → Recorded guest p records q → q.steps ≡ last_step p.steps records
counted guest p q records none = refl
counted guest p q records
    (more {p = p'} {q = before} {r = after} {s = last} {a = a} {n = n} {records = others} first
    moves recorded) = counted guest after last others recorded

pub one_recorded : OneProcessIsRecorded
one_recorded guest p q r records a b =
    let on = recorded_runs guest p q records a in
    let to = recorded_runs guest p r records b in
    let first = runs_count guest p q (map given_in records) on.steps on.runs in
    let second = runs_count guest p r (map given_in records) to.steps to.runs in
    let here = counted guest p q records a in
    let there = counted guest p r records b in
    let same : to.steps ≡ on.steps = omega arith in
    runs_once guest p q r (map given_in records) on.steps on.runs
    (subst (λ z. Runs guest p (map given_in records) z r) same to.runs)

-- ---- the front of a list of records

-- where the first records lead, and the others from there
pub record Split (guest : Guest) (p : ProcessState) (front rest : List Record) (q : ProcessState)
    : Type 0 where
  pub at : ProcessState
  pub first : Recorded guest p front at
  pub second : Recorded guest at rest q

-- one record, and where the others lead from there
pub record First (guest : Guest) (p : ProcessState) (next : Record) (others : List Record)
    (q : ProcessState) : Type 0 where
  pub steps : ℕ
  pub before : ProcessState
  pub after : ProcessState
  pub runs : Runs guest p [] steps before
  pub moves : Moves guest before (Some next.answer) after
  pub same : after.steps ≡ next.step
  pub recorded : Recorded guest after others q

pub first_of : (guest : Guest) (p q : ProcessState) (records : List Record) (next : Record)
    (others : List Record) → records ≡ next ∷ others → Recorded guest p records q
    → First guest p next others q
first_of guest p q records next others e none = absurd (cc)
first_of guest p q records next others e
    (more {p = p'} {q = before} {r = after} {s = last} {a = a} {n = n} {records = rest} runs moves
    recorded) =
    let head : record { step = after.steps; answer = a } ≡ next = cc in
    let tail : rest ≡ others = cc in
    record {
      steps = n;
      before = before;
      after = after;
      runs = runs;
      moves = subst (λ z. Moves guest before (Some z) after) (ap (λ (z : Record). z.answer) head)
          moves;
      same = ap (λ (z : Record). z.step) head;
      recorded = subst (λ z. Recorded guest after z last) tail recorded;
    }

pub split : (guest : Guest) (p q : ProcessState) (front rest : List Record)
    → Recorded guest p (front ++ rest) q → Split guest p front rest q
split guest p q [] rest recorded = record { at = p; first = none; second = recorded }
split guest p q (next ∷ front) rest recorded =
    let f = first_of guest p q (next ∷ (front ++ rest)) next (front ++ rest) refl recorded in
    let others = split guest f.after q front rest f.recorded in
    let entry : Record = record { step = f.after.steps; answer = next.answer } in
    let same : entry ≡ next =
    ap (λ z. record { step = z; answer = next.answer }) f.same in
    record {
      at = others.at;
      first = subst (λ z. Recorded guest p (z ∷ front) others.at) same
          (more f.runs f.moves others.first);
      second = others.second;
    }

-- ---- on the way

-- what is before the next record's step is on the way to it
before_next : (guest : Guest) (p q last : ProcessState) (n : ℕ) (next : Record)
    (others : List Record) → Runs guest p [] n q → n ≤ steps_before p (next ∷ others)
    → Recorded guest p (next ∷ others) last → Emits q.host last.host
before_next guest p q last n next others runs few recorded =
    let f = first_of guest p last (next ∷ others) next others refl recorded in
    let counted = runs_count guest p f.before [] f.steps f.runs in
    let taken = move_counts guest f.before f.after (Some next.answer) f.moves in
    let same = f.same in
    let to : Emits q.host f.before.host = at_or_on f (omega arith) in
    emits_on q.host f.before.host last.host to
    (emits_on f.before.host f.after.host last.host
    (move_emits guest f.before f.after (Some next.answer) f.moves)
    (recorded_emit guest f.after last others f.recorded))
  where
    compare : (a b : ℕ) → a ≤ b → (a ≡ b) ⊎ (a < b)
    compare a b le = grind arith

    at_or_on : (f : First guest p next others last) → n ≤ f.steps → Emits q.host f.before.host
    at_or_on f le =
        elim (compare n f.steps le) [
          | inl e ↦
              let there : q ≡ f.before = runs_once guest p q f.before [] n runs
              (subst (λ z. Runs guest p [] z f.before) (sym e) f.runs) in
              emits_none q.host f.before.host (ap (λ (z : ProcessState). z.host.lines) (sym there))
          | inr less ↦
              let k : ℕ = f.steps - suc n in
              let e : f.steps ≡ n + suc k = omega arith in
              runs_emit guest q f.before [] (suc k)
              (goes_on guest p q f.before [] n f.steps k runs f.runs e)
        ]

fits : (guest : Guest) (p last : ProcessState) (next : Record) (others : List Record)
    → Recorded guest p (next ∷ others) last → FitsNowhere guest p next → ⊥
fits guest p last next others recorded nowhere =
    let f = first_of guest p last (next ∷ others) next others refl recorded in
    nowhere f.after (recorded_once guest p f.before f.after f.steps next f.runs f.moves f.same)

from_here : (guest : Guest) (p last q : ProcessState) (rest : List Record) (n : ℕ)
    → Recorded guest p rest last → Runs guest p [] n q → n ≤ steps_before p rest
    → Emits q.host last.host × NextFits guest p rest
from_here guest p last q [] n recorded runs few = (emits_nothing, tt)
  where
    emits_nothing : Emits q.host last.host
    emits_nothing =
        let none_left : n ≡ 0 = omega (arith, few) in
        let here : p ≡ q = runs_once guest p p q [] 0 no_step
        (subst (λ z. Runs guest p [] z q) none_left runs) in
        let there : p ≡ last = one_recorded guest p p last [] none recorded in
        emits_none q.host last.host
        (ap (λ (z : ProcessState). z.host.lines) (sym there ∙ here))
from_here guest p last q (next ∷ others) n recorded runs few = (
  before_next guest p q last n next others runs few recorded,
  fits guest p last next others recorded,
)

pub refused_on_the_way : RefusedReplaysAreOnTheWay
refused_on_the_way guest p last records recorded come =
    let s = split guest p last come.front come.rest
    (subst (λ z. Recorded guest p z last) come.are recorded) in
    let same : s.at ≡ come.reached =
    one_recorded guest p s.at come.reached come.front s.first come.recorded in
    let h = from_here guest come.reached last come.process come.rest come.steps
    (subst (λ z. Recorded guest z come.rest last) same s.second) come.runs come.within in
    record { first_lines = h.0; fits = h.1 }
