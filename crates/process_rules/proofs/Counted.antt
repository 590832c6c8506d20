-- What is reached counts its steps and its answers, and has ended where its program has.
use Rattle.std.proofs.Common.{◌≡◌, ℕ, ◌+◌, ◌≤◌, List, [], ◌∷◌, Option, Some, None}
use Rattle.std.proofs.Common.{refl, sym, ap, subst, arith}
use Rattle.std.specs.Prelude.{Err, reverse, map, slice_get}
use Rattle.wasm_syntax.specs.declared.value.Value.{Value}
use Rattle.wasm_syntax.specs.declared.module.Module.{Module}
use Rattle.wasm_rules.specs.Types.{number_in}
use Rattle.wasm_rules.specs.Configuration.{Configuration, Thread, Outcome, Goes, Traps, Asks, Stuck}
use Rattle.wasm_rules.specs.Steps.{counted_step, stopped, IsEnded}
use Rattle.wasi_abi.specs.declared.answer.Answer.{Answer}
use Rattle.wasi_abi.specs.declared.answer.Answer.TheVariants as answer
use Rattle.wasi_abi.specs.declared.call.Call.{Call}
use Rattle.wasi_abi.specs.rules.Configs.{Settings}
use Rattle.wasi_abi.specs.rules.Versions.{widenings}
use Rattle.wasi_calls_rules.specs.WasiStates.{WasiState}
use Rattle.wasi_calls_rules.specs.Checks.{Ends, Ruling}
use Rattle.wasi_calls_rules.specs.CallRules.{call_rule}
use Rattle.process_rules.specs.Processes.{Ending, ProcessState, Guest, IsStart, closed_at}
use Rattle.process_rules.specs.Origins.{Origin, IsSucceeding, succeeding}
use Rattle.process_rules.specs.Runs.{Next, On, Over, Wants, Nowhere, after_call_rule, after_call}
use Rattle.process_rules.specs.Runs.{after_counted_step, next_of, taken, request_taken, stepped}
use Rattle.process_rules.specs.Runs.{LeadsTo, Moves, Kept, widened, IsWidening, Runs, none, step}
use Rattle.process_rules.specs.Runs.{take, widen, succeed, answers_in}
use Rattle.process_rules.specs.laws.Laws.{ReachedAreCounted, IsClosed, ReachedAreClosed}
use Rattle.process_rules.proofs.Growing.{move_counts, runs_count, start_counts}
use Rattle.process_rules.proofs.ReachedStates.{beginning, move_version}

-- ---- where a process ends

-- an end leaves no frame, and no call to come
abbrev StopsIn : Next → Type 0
StopsIn (On c h) = Unit {0}
StopsIn (Over why c h) = IsEnded c
StopsIn (Wants question) = Unit {0}
StopsIn Nowhere = Unit {0}

stopped_ends : (c : Configuration) → IsEnded (stopped c)
stopped_ends c = record { returned = refl; nothing_later = refl }

call_rule_stops : (c : Call) (r : Ruling) (before : Configuration) (h : WasiState) (waits : Thread)
    → StopsIn (after_call_rule c r before h waits)
call_rule_stops c (Err (Ends code)) before h waits = stopped_ends before
call_rule_stops c _ before h waits = tt

call_stops : (o : Option Call) (arguments : List Value) (given : Option Answer)
    (before : Configuration) (h : WasiState) (waits : Thread)
    → StopsIn (after_call o arguments given before h waits)
call_stops None arguments given before h waits = tt
call_stops (Some c) arguments given before h waits =
    call_rule_stops c (call_rule c (reverse (map number_in arguments)) given
    before.store.memory h) before h waits

step_stops : (guest : Guest) (outcome : Outcome) (given : Option Answer) (before : Configuration)
    (h : WasiState) → StopsIn (after_counted_step guest outcome given before h)
step_stops guest (Goes next) given before h = tt
step_stops guest (Traps why) given before h = stopped_ends before
step_stops guest (Asks f arguments waits) given before h =
    call_stops (slice_get guest.calls f) arguments given before h waits
step_stops guest Stuck given before h = tt

abbrev IsClosedHere : ProcessState → Type 0
IsClosedHere p = IsClosed p.ended p

-- a process that runs, of this thread and with these calls to come
runs_on : (p : ProcessState) → p.ended ≡ None → (IsEnded p.configuration → ⊥) → IsClosedHere p
runs_on p running not_ended = subst (λ o. IsClosed o p) (sym running) not_ended

closed_closes : (thread : Thread) (later : List ℕ) (p : ProcessState)
    → p.configuration.thread ≡ thread → p.configuration.later ≡ later → p.ended ≡ None
    → IsClosedHere (closed_at thread later p)
closed_closes [] [] p t l running = (record { returned = t; nothing_later = l }, refl, refl)
closed_closes [] (f ∷ later) p t l running =
    runs_on p running (λ ends. let none = ends.nothing_later in cc)
closed_closes (frame ∷ frames) [] p t l running =
    runs_on p running (λ ends. let none = ends.returned in cc)
closed_closes (frame ∷ frames) (f ∷ later) p t l running =
    runs_on p running (λ ends. let none = ends.returned in cc)

-- ---- one counted step

record CountsOn (given : Option Answer) (p q : ProcessState) : Type 0 where
  answers : q.answers ≡ p.answers + taken given
  requests : q.requests ≡ p.requests + request_taken given
  closed : IsClosedHere q

pub closed_answers : (thread : Thread) (later : List ℕ) (p : ProcessState)
    → (closed_at thread later p).answers ≡ p.answers
closed_answers [] [] p = refl
closed_answers [] (f ∷ later) p = refl
closed_answers (frame ∷ frames) [] p = refl
closed_answers (frame ∷ frames) (f ∷ later) p = refl

pub closed_requests : (thread : Thread) (later : List ℕ) (p : ProcessState)
    → (closed_at thread later p).requests ≡ p.requests
closed_requests [] [] p = refl
closed_requests [] (f ∷ later) p = refl
closed_requests (frame ∷ frames) [] p = refl
closed_requests (frame ∷ frames) (f ∷ later) p = refl

leads_count : (guest : Guest) (next : Next) (given : Option Answer) (p q : ProcessState)
    → StopsIn next → LeadsTo guest next given p q → CountsOn given p q
leads_count guest (On c h) given p q stops to =
    let after : ProcessState = stepped given to.0 h p in
    subst (CountsOn given p) (sym to.2) (record {
      answers = closed_answers to.0.thread to.0.later after;
      requests = closed_requests to.0.thread to.0.later after;
      closed = closed_closes to.0.thread to.0.later after refl refl refl;
    })
leads_count guest (Over why c h) given p q stops to =
    subst (CountsOn given p) (sym to)
    (record { answers = refl; requests = refl; closed = (stops, refl, refl) })
leads_count guest (Wants question) given p q stops to = absurd to
leads_count guest Nowhere given p q stops to = absurd to

move_counted : (guest : Guest) (p q : ProcessState) (given : Option Answer)
    → Moves guest p given q → CountsOn given p q
move_counted guest p q given moves =
    leads_count guest (next_of guest p given) given p q
    (step_stops guest (counted_step guest.program p.configuration) given p.configuration p.host)
    moves.leads

pub one_request : (a : Answer) → request_taken (Some a) ≤ 1
one_request (answer.Request text) = omega arith
one_request _ = omega arith

-- ---- runs

-- a process that has taken so many answers
record HasTaken (k : ℕ) (p : ProcessState) : Type 0 where
  answers : p.answers ≡ k
  few_answers : p.answers ≤ p.steps + widenings p.host.version
  few_requests : p.requests ≤ p.answers
  closed : IsClosedHere p

none_taken : (guest : Guest) (k : ℕ) (p q : ProcessState) → Moves guest p None q → HasTaken k p
    → HasTaken k q
none_taken guest k p q moves t =
    let on = move_counted guest p q None moves in
    let counted = move_counts guest p q None moves in
    let kept_version = ap widenings (move_version guest p q None moves) in
    record {
      answers = omega (arith, on.answers, t.answers);
      few_answers = omega (arith, on.answers, counted, kept_version, t.few_answers);
      few_requests = omega (arith, on.answers, on.requests, t.few_requests);
      closed = on.closed;
    }

one_taken : (guest : Guest) (k : ℕ) (p q : ProcessState) (a : Answer) → Moves guest p (Some a) q
    → HasTaken k p → HasTaken (k + 1) q
one_taken guest k p q a moves t =
    let on = move_counted guest p q (Some a) moves in
    let counted = move_counts guest p q (Some a) moves in
    let one = one_request a in
    let kept_version = ap widenings (move_version guest p q (Some a) moves) in
    record {
      answers = omega (arith, on.answers, t.answers);
      few_answers = omega (arith, on.answers, counted, kept_version, t.few_answers);
      few_requests = omega (arith, on.answers, on.requests, t.few_requests, one);
      closed = on.closed;
    }

closed_still : (ending : Option Ending) (p : ProcessState) → IsClosed ending p
    → IsClosed ending (widened p)
closed_still None p closed = closed
closed_still (Some why) p closed = closed

widening_taken : (k s : ℕ) (p : ProcessState) → IsWidening p s → HasTaken k p
    → HasTaken (k + 1) (widened p)
widening_taken k s p at t =
    let narrow : widenings p.host.version ≡ 0 = ap widenings at.narrow in
    record {
      answers = omega (arith, t.answers);
      few_answers = omega (arith, narrow, t.few_answers);
      few_requests = omega (arith, t.few_requests);
      closed = closed_still p.ended p t.closed;
    }

closed_after : (o : Origin) (ending : Option Ending) (p : ProcessState) → IsClosed ending p
    → IsClosed ending (succeeding o p)
closed_after o None p closed = closed
closed_after o (Some why) p closed = closed

succeeding_taken : (o : Origin) (k : ℕ) (p : ProcessState) → IsSucceeding o p → HasTaken k p
    → HasTaken (k + o.answers) (succeeding o p)
succeeding_taken o k p at t =
    let few = at.origin.answers in
    record {
      answers = omega (arith, at.no_answers, t.answers);
      few_answers = omega (arith, few);
      few_requests = at.origin.requests;
      closed = closed_after o p.ended p t.closed;
    }

runs_taken : (guest : Guest) (k : ℕ) (p q : ProcessState) (kept : List Kept) (n : ℕ)
    → Runs guest p kept n q → HasTaken k p → HasTaken (k + answers_in kept) q
runs_taken guest k p q kept n none t =
    let same : k ≡ k + 0 = omega arith in
    subst (λ j. HasTaken j q) same t
runs_taken guest k p q kept n (step {p = p'} {q = next} {kept = kept'} {n = n'} moves rest) t =
    runs_taken guest k next q kept' n' rest (none_taken guest k p' next moves t)
runs_taken guest k p q kept n
    (take {p = p'} {q = next} {a = a} {kept = kept'} {n = n'} moves rest) t =
    let whole : k + 1 + answers_in kept' ≡ k + (1 + answers_in kept') = omega arith in
    subst (λ j. HasTaken j q) whole
    (runs_taken guest (k + 1) next q kept' n' rest (one_taken guest k p' next a moves t))
runs_taken guest k p q kept n (widen {p = p'} {steps = s} {kept = kept'} {n = n'} at rest) t =
    let whole : k + 1 + answers_in kept' ≡ k + (1 + answers_in kept') = omega arith in
    subst (λ j. HasTaken j q) whole
    (runs_taken guest (k + 1) (widened p') q kept' n' rest (widening_taken k s p' at t))
runs_taken guest k p q kept n (succeed {p = p'} {o = o} {kept = kept'} {k = n'} at sum rest) t =
    let whole : k + o.answers + answers_in kept' ≡ k + (o.answers + answers_in kept') = omega arith
    in
    subst (λ j. HasTaken j q) whole
    (runs_taken guest (k + o.answers) (succeeding o p') q kept' n' rest
    (succeeding_taken o k p' at t))

-- ---- the beginning

closed_taken : (thread : Thread) (later : List ℕ) (p : ProcessState)
    → p.configuration.thread ≡ thread → p.configuration.later ≡ later → p.ended ≡ None
    → p.answers ≡ 0 → p.requests ≡ 0 → HasTaken 0 (closed_at thread later p)
closed_taken thread later p t l running answers requests =
    let same = closed_answers thread later p in
    let also = closed_requests thread later p in
    record {
      answers = omega (arith, same, answers);
      few_answers = omega (arith, same, answers);
      few_requests = omega (arith, same, also, requests);
      closed = closed_closes thread later p t l running;
    }

start_taken : (m : Module) (config : Settings) (guest : Guest) (p : ProcessState)
    → IsStart m config guest p → HasTaken 0 p
start_taken m config guest p start =
    subst (HasTaken 0) (sym start.is)
    (closed_taken start.first.thread start.first.later (beginning start.first config) refl refl
    refl refl refl)

pub reached_are_counted : ReachedAreCounted
reached_are_counted m config kept n p r =
    let first = start_counts m config r.guest r.start r.begins in
    let counted = runs_count r.guest r.start p kept n r.runs in
    let t = runs_taken r.guest 0 r.start p kept n r.runs
    (start_taken m config r.guest r.start r.begins) in
    record {
      steps = omega (arith, first, counted);
      answers = omega (arith, t.answers);
      few_answers = t.few_answers;
      few_requests = t.few_requests;
    }

pub reached_are_closed : ReachedAreClosed
reached_are_closed m config kept n p r =
    (runs_taken r.guest 0 r.start p kept n r.runs
    (start_taken m config r.guest r.start r.begins)).closed
