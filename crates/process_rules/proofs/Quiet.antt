-- Runs one after another, and rules after which nothing is owed.
use Rattle.std.proofs.Common.{◌≡◌, ℕ, zero, suc, ◌+◌, List, [], ◌∷◌, ◌++◌, Option, None, refl, sym}
use Rattle.std.proofs.Common.{◌∙◌, ap, subst, arith}
use Rattle.wasm_syntax.specs.declared.value.Trap.{Trap}
use Rattle.wasm_rules.specs.Configuration.{Program, Configuration, Thread, Outcome, Goes}
use Rattle.wasm_rules.specs.Configuration.{Traps, Stuck}
use Rattle.wasm_rules.specs.Steps.{counted_step, stopped, IsEnded, Steps, none as no_steps}
use Rattle.wasm_rules.specs.Steps.{more as more_steps, Advances}
use Rattle.wasi_calls_rules.specs.WasiStates.{WasiState}
use Rattle.process_rules.specs.Processes.{Ending, ProcessState, Guest, Exited, Trapped, over}
use Rattle.process_rules.specs.Processes.{closed, closed_at}
use Rattle.process_rules.specs.Origins.{succeeding}
use Rattle.process_rules.specs.Runs.{Given, widened, after_counted_step, stepped, LeadsTo, Moves}
use Rattle.process_rules.specs.Runs.{Runs, none as no_run, step, take, widen, succeed}
use Rattle.process_rules.specs.Behind.{Syncs}
use Rattle.process_rules.specs.Owing.{MovesQuietly, RunsQuietly, none, more}
use Rattle.process_rules.specs.laws.Laws.{RunsJoin, QuietRunsJoin, QuietRunsAreRuns, StepsAreQuiet}
use Rattle.process_rules.specs.laws.Laws.{LastStepEnds, TrapEnds}

-- ---- runs

pub runs_join : RunsJoin
runs_join guest p q r front rest n k (no_run {p = p'}) b =
    let same : k ≡ 0 + k = omega arith in
    subst (λ z. Runs guest p' rest z r) same b
runs_join guest p q r front rest n k (step {p = p'} {q = next} {kept = kept} {n = m} moves a) b =
    let same : suc (m + k) ≡ suc m + k = omega arith in
    subst (λ z. Runs guest p' (kept ++ rest) z r) same
    (step moves (runs_join guest next q r kept rest m k a b))
runs_join guest p q r front rest n k
    (take {p = p'} {q = next} {a = answer} {kept = kept} {n = m} moves a) b =
    let same : suc (m + k) ≡ suc m + k = omega arith in
    subst (λ z. Runs guest p' ((Given answer ∷ kept) ++ rest) z r) same
    (take moves (runs_join guest next q r kept rest m k a b))
runs_join guest p q r front rest n k (widen {p = p'} {steps = s} {kept = kept} {n = m} at a) b =
    widen at (runs_join guest (widened p') q r kept rest m k a b)
runs_join guest p q r front rest n k
    (succeed {p = p'} {o = o} {kept = kept} {n = m} {k = j} at sum a) b =
    succeed at (omega (arith, sum)) (runs_join guest (succeeding o p') q r kept rest j k a b)

pub quiet_runs_join : QuietRunsJoin
quiet_runs_join guest p q r n k (none {p = p'}) b =
    let same : k ≡ 0 + k = omega arith in
    subst (λ z. RunsQuietly guest p' z r) same b
quiet_runs_join guest p q r n k (more {n = m} {p = p'} {q = next} moves a) b =
    let same : suc (m + k) ≡ suc m + k = omega arith in
    subst (λ z. RunsQuietly guest p' z r) same (more moves (quiet_runs_join guest next q r m k a b))

pub quiet_runs_are_runs : QuietRunsAreRuns
quiet_runs_are_runs guest p q n (none {p = p'}) = (no_run, refl)
quiet_runs_are_runs guest p q n (more {n = m} {p = p'} {q = next} moves rest) =
    let on = quiet_runs_are_runs guest next q m rest in
    (step moves.moves on.0, on.1 ∙ moves.no_line)

-- ---- processes by their parts

abbrev pub running : Configuration → WasiState → ℕ → ℕ → ℕ → ProcessState
running c h steps answers requests = record {
  configuration = c;
  host = h;
  steps = steps;
  answers = answers;
  requests = requests;
  ended = None;
}

abbrev pub ended : Ending → Configuration → WasiState → ℕ → ℕ → ℕ → ProcessState
ended why c h steps answers requests = over why (running c h steps answers requests)

-- a step that takes no answer counts none
pub stepped_on : (c d : Configuration) (h : WasiState) (s a r : ℕ)
    → stepped None d h (running c h s a r) ≡ running d h (s + 1) a r
stepped_on c d h s a r =
    let answers : a + 0 ≡ a = omega arith in
    let requests : r + 0 ≡ r = omega arith in
    ap (λ z. running d h (s + 1) z (r + 0)) answers ∙ ap (λ z. running d h (s + 1) a z) requests

-- what hasn't come to its end isn't closed
pub open_still : (thread : Thread) (later : List ℕ) (p : ProcessState)
    → ((thread ≡ []) → (later ≡ []) → ⊥) → closed_at thread later p ≡ p
open_still [] [] p unended = absurd (unended refl refl)
open_still [] (f ∷ later) p unended = refl
open_still (frame ∷ frames) [] p unended = refl
open_still (frame ∷ frames) (f ∷ later) p unended = refl

-- ---- one counted step

-- at the end of the program no counted step applies
pub none_counted : (program : Program) (c : Configuration) → IsEnded c
    → counted_step program c ≡ Stuck
none_counted program c over = rw over.returned refl

pub goes_open : (program : Program) (c d : Configuration) → counted_step program c ≡ Goes d
    → IsEnded c → ⊥
goes_open program c d goes over = let stuck = none_counted program c over in cc

pub traps_open : (program : Program) (c : Configuration) (why : Trap)
    → counted_step program c ≡ Traps why → IsEnded c → ⊥
traps_open program c why traps over = let stuck = none_counted program c over in cc

pub goes_syncs_not : (guest : Guest) (c d : Configuration) (h : WasiState) (s a r : ℕ)
    → counted_step guest.program c ≡ Goes d → Syncs guest (running c h s a r) → ⊥
goes_syncs_not guest c d h s a r goes syncs = let asks = syncs.asks in cc

traps_syncs_not : (guest : Guest) (c : Configuration) (why : Trap) (h : WasiState) (s a r : ℕ)
    → counted_step guest.program c ≡ Traps why → Syncs guest (running c h s a r) → ⊥
traps_syncs_not guest c why h s a r traps syncs = let asks = syncs.asks in cc

-- a counted step leads on to what closes there
pub step_moves : (guest : Guest) (c d : Configuration) (h : WasiState) (s a r : ℕ)
    → Advances guest.program c d
    → Moves guest (running c h s a r) None (closed (running d h (s + 1) a r))
step_moves guest c d h s a r advances = record {
  running = refl;
  wanted = tt;
  leads =
      let to : closed (running d h (s + 1) a r) ≡ closed (stepped None d h (running c h s a r)) =
      ap closed (sym (stepped_on c d h s a r)) in
      let P : Outcome → Type 0 =
      λ z. LeadsTo guest (after_counted_step guest z None c h) None (running c h s a r)
      (closed (running d h (s + 1) a r)) in
      let at : P (Goes advances.between) = (d, advances.reduces, to) in
      subst P (sym advances.counted) at;
}

step_moves_quietly : (guest : Guest) (c d : Configuration) (h : WasiState) (s a r : ℕ)
    → Advances guest.program c d → (IsEnded d → ⊥)
    → MovesQuietly guest (running c h s a r) (running d h (s + 1) a r)
step_moves_quietly guest c d h s a r advances no_end =
    let open_there : closed (running d h (s + 1) a r) ≡ running d h (s + 1) a r =
    open_still d.thread d.later (running d h (s + 1) a r) (λ returned nothing_later.
    no_end (record { returned = returned; nothing_later = nothing_later })) in
    record {
      moves = subst (λ z. Moves guest (running c h s a r) None z) open_there
          (step_moves guest c d h s a r advances);
      no_line = refl;
      no_sync = goes_syncs_not guest c advances.between h s a r advances.counted;
    }

pub step_ends : (guest : Guest) (c d : Configuration) (h : WasiState) (s a r : ℕ)
    → Advances guest.program c d → IsEnded d
    → Moves guest (running c h s a r) None (ended (Exited 0) d h (s + 1) a r)
step_ends guest c d h s a r advances end =
    let there : closed (running d h (s + 1) a r) ≡ ended (Exited 0) d h (s + 1) a r =
    ap (λ z. closed_at z d.later (running d h (s + 1) a r)) end.returned
    ∙ ap (λ z. closed_at [] z (running d h (s + 1) a r)) end.nothing_later in
    subst (λ z. Moves guest (running c h s a r) None z) there
    (step_moves guest c d h s a r advances)

pub trap_moves : (guest : Guest) (c : Configuration) (why : Trap) (h : WasiState) (s a r : ℕ)
    → counted_step guest.program c ≡ Traps why
    → Moves guest (running c h s a r) None (ended (Trapped why) (stopped c) h (s + 1) a r)
trap_moves guest c why h s a r traps = record {
  running = refl;
  wanted = tt;
  leads =
      let to : ended (Trapped why) (stopped c) h (s + 1) a r
      ≡ over (Trapped why) (stepped None (stopped c) h (running c h s a r)) =
      ap (over (Trapped why)) (sym (stepped_on c (stopped c) h s a r)) in
      let P : Outcome → Type 0 =
      λ z. LeadsTo guest (after_counted_step guest z None c h) None (running c h s a r)
      (ended (Trapped why) (stopped c) h (s + 1) a r) in
      let at : P (Traps why) = to in
      subst P (sym traps) at;
}

-- ---- rules, one after another

steps_open : (program : Program) (n : ℕ) (c d : Configuration) → Steps program n c d
    → (IsEnded d → ⊥) → IsEnded c → ⊥
steps_open program n c d no_steps unended = unended
steps_open program n c d (more_steps {c = c'} {d = between} advances rest) unended =
    goes_open program c' advances.between advances.counted

steps_from : (guest : Guest) (n : ℕ) (c d : Configuration) (h : WasiState) (s a r : ℕ)
    → Steps guest.program n c d → (IsEnded d → ⊥)
    → RunsQuietly guest (running c h s a r) n (running d h (s + n) a r)
steps_from guest n c d h s a r (no_steps {c = c'}) unended =
    let same : s ≡ s + 0 = omega arith in
    subst (λ z. RunsQuietly guest (running c' h s a r) 0 (running c' h z a r)) same none
steps_from guest n c d h s a r (more_steps {n = m} {c = c'} {d = between} {e = d'} advances rest)
    unended =
    let same : (s + 1) + m ≡ s + suc m = omega arith in
    let first = step_moves_quietly guest c' between h s a r advances
    (steps_open guest.program m between d' rest unended) in
    let others = steps_from guest m between d' h (s + 1) a r rest unended in
    subst (λ z. RunsQuietly guest (running c' h s a r) (suc m) (running d' h z a r)) same
    (more first others)

-- the last of so many steps
record Last (program : Program) (n : ℕ) (c d : Configuration) : Type 0 where
  pub before : Configuration
  pub front : Steps program n c before
  pub advances : Advances program before d

last_of : (program : Program) (n : ℕ) (c d : Configuration) → Steps program (suc n) c d
    → Last program n c d
last_of program zero c d (more_steps advances no_steps) = record {
  before = c;
  front = no_steps;
  advances = advances;
}
last_of program (suc n) c d (more_steps {d = between} advances rest) =
    let last = last_of program n between d rest in
    record {
      before = last.before;
      front = more_steps advances last.front;
      advances = last.advances;
    }

-- ---- the laws

pub steps_are_quiet : StepsAreQuiet
steps_are_quiet guest p n d is_running steps unended =
    let P : Option Ending → Type 0 =
    λ z. RunsQuietly guest (record p { ended = z }) n (record p {
      configuration = d;
      steps = p.steps + n;
      ended = z;
    }) in
    subst P (sym is_running)
    (steps_from guest n p.configuration d p.host p.steps p.answers p.requests steps unended)

pub last_step_ends : LastStepEnds
last_step_ends guest p n d is_running steps end =
    let last = last_of guest.program n p.configuration d steps in
    let before : ProcessState = running last.before p.host (p.steps + n) p.answers p.requests in
    let count : (p.steps + n) + 1 ≡ p.steps + suc n = omega arith in
    let open_before =
    goes_open guest.program last.before last.advances.between last.advances.counted in
    let runs = steps_from guest n p.configuration last.before p.host p.steps p.answers p.requests
    last.front open_before in
    let moves = step_ends guest last.before d p.host (p.steps
    + n) p.answers p.requests last.advances end in
    record {
      before = before;
      runs = subst (λ z. RunsQuietly guest ((record p { ended = z })) n before)
          (sym is_running) runs;
      same_host = refl;
      moves = subst (λ z.
          Moves guest before None (ended (Exited 0) d p.host z p.answers p.requests)) count moves;
      no_sync = goes_syncs_not guest last.before last.advances.between p.host (p.steps
          + n) p.answers p.requests last.advances.counted;
    }

pub trap_ends : TrapEnds
trap_ends guest p n d why is_running steps traps =
    let before : ProcessState = running d p.host (p.steps + n) p.answers p.requests in
    let count : (p.steps + n) + 1 ≡ p.steps + suc n = omega arith in
    let runs = steps_from guest n p.configuration d p.host p.steps p.answers p.requests steps
    (traps_open guest.program d why traps) in
    let moves = trap_moves guest d why p.host (p.steps + n) p.answers p.requests traps in
    record {
      before = before;
      runs = subst (λ z. RunsQuietly guest ((record p { ended = z })) n before)
          (sym is_running) runs;
      same_host = refl;
      moves = subst (λ z.
          Moves guest before None (ended (Trapped why) (stopped d) p.host z p.answers p.requests))
          count moves;
      no_sync = traps_syncs_not guest d why p.host (p.steps + n) p.answers p.requests traps;
    }
