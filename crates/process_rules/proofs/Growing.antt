-- A step is counted, and its lines are after those that were there.
use Rattle.std.proofs.Common.{◌≡◌, ℕ, ◌+◌, List, [], ◌∷◌, ◌++◌, Option, Some, None, refl, sym, ap}
use Rattle.std.proofs.Common.{◌∙◌, arith, append_assoc}
use Rattle.std.specs.Prelude.{Ok, Err, reverse, map, slice_get}
use Rattle.wasm_syntax.specs.declared.module.Module.{Module}
use Rattle.wasm_syntax.specs.declared.value.Value.{Value}
use Rattle.wasm_rules.specs.Types.{number_in}
use Rattle.wasm_rules.specs.Configuration.{Configuration, Thread, Outcome, Goes, Traps, Asks, Stuck}
use Rattle.wasm_rules.specs.Steps.{counted_step}
use Rattle.wasi_abi.specs.declared.answer.Answer.{Answer}
use Rattle.wasi_abi.specs.declared.call.Call.{Call}
use Rattle.wasi_abi.specs.rules.Configs.{Settings}
use Rattle.wasi_calls_rules.specs.WasiStates.{WasiState}
use Rattle.wasi_calls_rules.specs.Checks.{Refuses, Ends, Asks as Inquires, Done, Ruling}
use Rattle.wasi_calls_rules.specs.Lines.{lines_ended}
use Rattle.wasi_calls_rules.specs.CallRules.{call_rule}
use Rattle.wasi_calls_rules.specs.laws.Laws.{Emits}
use Rattle.wasi_calls_rules.proofs.EmitsLines.{emits_none, call_rules_emit}
use Rattle.process_rules.specs.Processes.{ProcessState, Guest, IsStart, closed, closed_at}
use Rattle.process_rules.specs.Origins.{succeeding}
use Rattle.process_rules.specs.Runs.{Next, On, Over, Wants, Nowhere, after_call_rule, after_call}
use Rattle.process_rules.specs.Runs.{after_counted_step, next_of, stepped, LeadsTo, Moves, none}
use Rattle.process_rules.specs.Runs.{step, take, widened, widen, succeed}
use Rattle.process_rules.specs.laws.Laws.{RunsCount, RunsEmit}

pub emits_on : (g h k : WasiState) → Emits g h → Emits h k → Emits g k
emits_on g h k a b = record {
  lines = a.lines ++ b.lines;
  are = rw b.are (rw a.are (append_assoc g.lines a.lines b.lines));
}

-- ---- a step

ended_emits : (h : WasiState) → Emits h (lines_ended h)
ended_emits h = record { lines = _; are = refl }

closed_emits : (thread : Thread) (later : List ℕ) (p : ProcessState)
    → Emits p.host (closed_at thread later p).host
closed_emits [] [] p = ended_emits p.host
closed_emits [] (f ∷ later) p = emits_none p.host p.host refl
closed_emits (frame ∷ frames) [] p = emits_none p.host p.host refl
closed_emits (frame ∷ frames) (f ∷ later) p = emits_none p.host p.host refl

closed_counts : (thread : Thread) (later : List ℕ) (p : ProcessState)
    → (closed_at thread later p).steps ≡ p.steps
closed_counts [] [] p = refl
closed_counts [] (f ∷ later) p = refl
closed_counts (frame ∷ frames) [] p = refl
closed_counts (frame ∷ frames) (f ∷ later) p = refl

-- the host that the next thing leads to has emitted lines
abbrev EmitsTo : WasiState → Next → Type 0
EmitsTo h (On c after) = Emits h after
EmitsTo h (Over why c after) = Emits h after
EmitsTo h (Wants question) = Unit {0}
EmitsTo h Nowhere = Unit {0}

call_rule_emits_to : (c : Call) (r : Ruling) (before : Configuration) (h : WasiState)
    (waits : Thread) → ((done : Done) → r ≡ Ok done → Emits h done.host)
    → EmitsTo h (after_call_rule c r before h waits)
call_rule_emits_to c (Ok done) before h waits emits = emits done refl
call_rule_emits_to c (Err (Refuses e)) before h waits emits = emits_none h h refl
call_rule_emits_to c (Err (Ends code)) before h waits emits = emits_none h h refl
call_rule_emits_to c (Err (Inquires question)) before h waits emits = tt

call_emits_to : (o : Option Call) (arguments : List Value) (given : Option Answer)
    (before : Configuration) (h : WasiState) (waits : Thread)
    → EmitsTo h (after_call o arguments given before h waits)
call_emits_to None arguments given before h waits = tt
call_emits_to (Some c) arguments given before h waits =
    call_rule_emits_to c (call_rule c (reverse (map number_in arguments)) given
    before.store.memory h) before h waits
    (call_rules_emit c (reverse (map number_in arguments)) given before.store.memory h)

step_emits_to : (guest : Guest) (outcome : Outcome) (given : Option Answer) (before : Configuration)
    (h : WasiState) → EmitsTo h (after_counted_step guest outcome given before h)
step_emits_to guest (Goes next) given before h = emits_none h h refl
step_emits_to guest (Traps why) given before h = emits_none h h refl
step_emits_to guest (Asks f arguments waits) given before h =
    call_emits_to (slice_get guest.calls f) arguments given before h waits
step_emits_to guest Stuck given before h = tt

-- one more step was counted, and lines were emitted
record Grows (p q : ProcessState) : Type 0 where
  pub counts : q.steps ≡ p.steps + 1
  pub emits : Emits p.host q.host

leads_grow : (guest : Guest) (next : Next) (given : Option Answer) (p q : ProcessState)
    → EmitsTo p.host next → LeadsTo guest next given p q → Grows p q
leads_grow guest (On c h) given p q emits to =
    let reduced : Configuration = to.0 in
    let after : ProcessState = stepped given reduced h p in
    record {
      counts = ap (λ (z : ProcessState). z.steps) to.2
          ∙ closed_counts reduced.thread reduced.later after;
      emits = rw to.2 (emits_on p.host h (closed after).host emits
          (closed_emits reduced.thread reduced.later after));
    }
leads_grow guest (Over why c h) given p q emits to = record {
  counts = ap (λ (z : ProcessState). z.steps) to;
  emits = rw to (emits_on p.host h (lines_ended h) emits (ended_emits h));
}
leads_grow guest (Wants question) given p q emits to = absurd to
leads_grow guest Nowhere given p q emits to = absurd to

move_grows : (guest : Guest) (p q : ProcessState) (given : Option Answer) → Moves guest p given q
    → Grows p q
move_grows guest p q given moves =
    leads_grow guest (next_of guest p given) given p q
    (step_emits_to guest (counted_step guest.program p.configuration) given p.configuration p.host)
    moves.leads

pub move_counts : (guest : Guest) (p q : ProcessState) (given : Option Answer)
    → Moves guest p given q → q.steps ≡ p.steps + 1
move_counts guest p q given moves = (move_grows guest p q given moves).counts

pub move_emits : (guest : Guest) (p q : ProcessState) (given : Option Answer)
    → Moves guest p given q → Emits p.host q.host
move_emits guest p q given moves = (move_grows guest p q given moves).emits

-- ---- runs

-- nothing was counted at the start
pub start_counts : (m : Module) (config : Settings) (guest : Guest) (p : ProcessState)
    → IsStart m config guest p → p.steps ≡ 0
start_counts m config guest p start = ap (λ (z : ProcessState). z.steps) start.is
    ∙ closed_counts start.first.thread start.first.later _

pub runs_count : RunsCount
runs_count guest p q kept n (none {p = p'}) = omega arith
runs_count guest p q kept n (step {p = p'} {q = next} {kept = kept'} {n = m} moves rest) =
    let first = move_counts guest p' next None moves in
    let others = runs_count guest next q kept' m rest in
    omega arith
runs_count guest p q kept n (take {p = p'} {q = next} {a = a} {kept = kept'} {n = m} moves rest) =
    let first = move_counts guest p' next (Some a) moves in
    let others = runs_count guest next q kept' m rest in
    omega arith
runs_count guest p q kept n (widen {p = p'} {kept = kept'} {n = m} at rest) =
    runs_count guest (widened p') q kept' m rest
runs_count guest p q kept n
    (succeed {p = p'} {o = o} {kept = kept'} {n = whole} {k = k} at sum rest) =
    let others = runs_count guest (succeeding o p') q kept' k rest in
    let none = at.no_steps in
    omega (arith, others, none, sum)

pub runs_emit : RunsEmit
runs_emit guest p q kept n (none {p = p'}) = emits_none p'.host p'.host refl
runs_emit guest p q kept n (step {p = p'} {q = next} {kept = kept'} {n = m} moves rest) =
    emits_on p'.host next.host q.host (move_emits guest p' next None moves)
    (runs_emit guest next q kept' m rest)
runs_emit guest p q kept n (take {p = p'} {q = next} {a = a} {kept = kept'} {n = m} moves rest) =
    emits_on p'.host next.host q.host (move_emits guest p' next (Some a) moves)
    (runs_emit guest next q kept' m rest)
runs_emit guest p q kept n (widen {p = p'} {kept = kept'} {n = m} at rest) =
    emits_on p'.host (widened p').host q.host (emits_none p'.host (widened p').host refl)
    (runs_emit guest (widened p') q kept' m rest)
runs_emit guest p q kept n (succeed at sum rest) =
    record { lines = q.host.lines; are = ap (λ lines. lines ++ q.host.lines) (sym at.no_lines) }
