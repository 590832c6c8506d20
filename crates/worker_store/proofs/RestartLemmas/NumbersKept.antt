-- Steps and lines only grow: where a process comes to numbers below their ends, it had them before.
use Rattle.std.proofs.Common.{◌≡◌, ℕ, ◌^◌, ◌<◌, ◌≤◌, List, [], ◌∷◌, length, Option, Some, None}
use Rattle.std.proofs.Common.{◌++◌, refl, ap, arith, length-append}
use Rattle.std.specs.Prelude.{Ok, Err, reverse, map, slice_get}
use Rattle.wasm_syntax.specs.declared.value.Value.{Value}
use Rattle.wasm_rules.specs.Types.{number_in}
use Rattle.wasm_rules.specs.Configuration.{Configuration, Thread, Outcome, Goes, Traps, Asks, Stuck}
use Rattle.wasm_rules.specs.Steps.{counted_step}
use Rattle.wasi_abi.specs.declared.answer.Answer.{Answer}
use Rattle.wasi_abi.specs.declared.call.Call.{Call}
use Rattle.wasi_calls_rules.specs.WasiStates.{Line, WasiState}
use Rattle.wasi_calls_rules.specs.declared.output_stream.OutputStream.TheVariants.{Stdout, Stderr}
use Rattle.wasi_calls_rules.specs.Checks.{Refuses, Ends, Asks as Inquires, Done, Ruling}
use Rattle.wasi_calls_rules.specs.Lines.{rest_of, lines_ended}
use Rattle.wasi_calls_rules.specs.CallRules.{call_rule}
use Rattle.wasi_calls_rules.proofs.EmitsLines.{WritesFew, keeps, writes, call_rules_write_few}
use Rattle.wasi_calls.proofs.Begun.{stream_begins}
use Rattle.wasi_calls.proofs.FewLines.{ended_kept}
use Rattle.process_rules.specs.Processes.{ProcessState, Guest, HasLineNumbers, closed_at}
use Rattle.process_rules.specs.Origins.{Origin, succeeding}
use Rattle.process_rules.specs.Runs.{Next, On, Over, Wants, Nowhere, after_call_rule, after_call}
use Rattle.process_rules.specs.Runs.{after_counted_step, next_of, stepped, LeadsTo, Moves, none}
use Rattle.process_rules.specs.Runs.{step, take, widened, widen, succeed}
use Rattle.process_rules.proofs.Growing.{move_counts}
use Rattle.record_replay.specs.rules.Records.{none as no_record, more as more_records}
use Rattle.worker_store.specs.restart_theorem.Stands.{IsNumbered}
use Rattle.worker_store.specs.restart_theorem.laws.Disks.{RunsKeepNumbers, RecordsKeepNumbers}
use Rattle.worker_store.specs.restart_theorem.laws.Disks.{SavedAreNumbered}

-- the lines of a host, with those that an end would emit
abbrev all_lines : WasiState → ℕ
all_lines h = length (lines_ended h).lines

-- ---- one step

ended_lines : (h : WasiState) → all_lines (lines_ended h) ≡ all_lines h
ended_lines h = omega (arith, length-append (lines_ended h).lines [])

closed_lines : (thread : Thread) (later : List ℕ) (p : ProcessState)
    → all_lines (closed_at thread later p).host ≡ all_lines p.host
closed_lines [] [] p = ended_lines p.host
closed_lines [] (f ∷ later) p = refl
closed_lines (frame ∷ frames) [] p = refl
closed_lines (frame ∷ frames) (f ∷ later) p = refl

written_lines : (before after : WasiState) → WritesFew before after
    → all_lines before ≤ all_lines after
written_lines before after (keeps k) = omega (arith, ended_kept before after k)
written_lines before after (writes s bytes short is) =
    rw is (omega (arith, stream_begins s bytes before))

-- the host that the next thing leads to has no fewer lines
abbrev LeadsToLines : WasiState → Next → Type 0
LeadsToLines h (On c after) = all_lines h ≤ all_lines after
LeadsToLines h (Over why c after) = all_lines h ≤ all_lines after
LeadsToLines h (Wants question) = Unit {0}
LeadsToLines h Nowhere = Unit {0}

call_rule_lines : (c : Call) (r : Ruling) (before : Configuration) (h : WasiState) (waits : Thread)
    → ((done : Done) → r ≡ Ok done → all_lines h ≤ all_lines done.host)
    → LeadsToLines h (after_call_rule c r before h waits)
call_rule_lines c (Ok done) before h waits more = more done refl
call_rule_lines c (Err (Refuses e)) before h waits more = omega arith
call_rule_lines c (Err (Ends code)) before h waits more = omega arith
call_rule_lines c (Err (Inquires question)) before h waits more = tt

call_lines : (o : Option Call) (arguments : List Value) (given : Option Answer)
    (before : Configuration) (h : WasiState) (waits : Thread)
    → LeadsToLines h (after_call o arguments given before h waits)
call_lines None arguments given before h waits = tt
call_lines (Some c) arguments given before h waits =
    let numbers : List ℕ = reverse (map number_in arguments) in
    let memory : List ℕ = before.store.memory in
    call_rule_lines c (call_rule c numbers given memory h) before h waits
    (λ done is. written_lines h done.host (call_rules_write_few c numbers given memory h done is))

step_lines : (guest : Guest) (outcome : Outcome) (given : Option Answer) (before : Configuration)
    (h : WasiState) → LeadsToLines h (after_counted_step guest outcome given before h)
step_lines guest (Goes next) given before h = omega arith
step_lines guest (Traps why) given before h = omega arith
step_lines guest (Asks f arguments waits) given before h =
    call_lines (slice_get guest.calls f) arguments given before h waits
step_lines guest Stuck given before h = tt

leads_lines : (guest : Guest) (next : Next) (given : Option Answer) (p q : ProcessState)
    → LeadsToLines p.host next → LeadsTo guest next given p q
    → all_lines p.host ≤ all_lines q.host
leads_lines guest (On c h) given p q more to =
    let reduced : Configuration = to.0 in
    let after : ProcessState = stepped given reduced h p in
    rw to.2 (omega (arith, more, closed_lines reduced.thread reduced.later after))
leads_lines guest (Over why c h) given p q more to =
    rw to (omega (arith, more, ended_lines h))
leads_lines guest (Wants question) given p q more to = absurd to
leads_lines guest Nowhere given p q more to = absurd to

move_lines : (guest : Guest) (p q : ProcessState) (given : Option Answer) → Moves guest p given q
    → all_lines p.host ≤ all_lines q.host
move_lines guest p q given moves =
    leads_lines guest (next_of guest p given) given p q
    (step_lines guest (counted_step guest.program p.configuration) given p.configuration p.host)
    moves.leads

pub move_keeps_numbers : (guest : Guest) (p q : ProcessState) (given : Option Answer)
    → Moves guest p given q → IsNumbered q → IsNumbered p
move_keeps_numbers guest p q given moves has =
    let steps : q.steps < 2 ^ 63 = has.steps in
    let lines : HasLineNumbers q.host = has.lines in
    record {
      steps = omega (arith, steps, move_counts guest p q given moves);
      lines = omega (arith, lines, move_lines guest p q given moves);
    }

-- ---- runs

-- a process without lines has no more of them than with those of another one
succeeding_lines : (o : Origin) (p : ProcessState) → p.host.lines ≡ []
    → all_lines p.host ≤ all_lines (succeeding o p).host
succeeding_lines o p empty =
    let begun : List Line = rest_of Stdout p.host.first ++ rest_of Stderr p.host.second in
    let few : length p.host.lines ≡ 0 = ap (λ (l : List Line). length l) empty in
    omega (arith, few, length-append p.host.lines begun, length-append o.lines begun)

pub runs_keep_numbers : RunsKeepNumbers
runs_keep_numbers guest p q kept n (none {p = p'}) has = has
runs_keep_numbers guest p q kept n
    (step {p = p'} {q = next} {kept = kept'} {n = k} moves rest) has =
    move_keeps_numbers guest p' next None moves
    (runs_keep_numbers guest next q kept' k rest has)
runs_keep_numbers guest p q kept n
    (take {p = p'} {q = next} {a = a} {kept = kept'} {n = k} moves rest) has =
    move_keeps_numbers guest p' next (Some a) moves
    (runs_keep_numbers guest next q kept' k rest has)
runs_keep_numbers guest p q kept n (widen {p = p'} {kept = kept'} {n = k} at rest) has =
    let before : IsNumbered (widened p') =
    runs_keep_numbers guest (widened p') q kept' k rest has in
    record { steps = before.steps; lines = before.lines }
runs_keep_numbers guest p q kept n
    (succeed {p = p'} {o = o} {kept = kept'} {k = k} at sum rest) has =
    let before : IsNumbered (succeeding o p') =
    runs_keep_numbers guest (succeeding o p') q kept' k rest has in
    let steps : p'.steps ≡ 0 = at.no_steps in
    let lines : HasLineNumbers (succeeding o p').host = before.lines in
    record {
      steps = omega (arith, steps);
      lines = omega (arith, lines, succeeding_lines o p' at.no_lines);
    }

pub records_keep_numbers : RecordsKeepNumbers
records_keep_numbers guest p q records (no_record {p = p'}) has = has
records_keep_numbers guest p q records
    (more_records {p = p'} {q = before} {r = after} {s = last} {a = a} {n = n} {records = rest}
    first moves recorded) has =
    runs_keep_numbers guest p' before [] n first
    (move_keeps_numbers guest before after (Some a) moves
    (records_keep_numbers guest after last rest recorded has))

pub saved_are_numbered : SavedAreNumbered
saved_are_numbered disk m config kept n stands =
    records_keep_numbers stands.reached.guest stands.process stands.last stands.records
    stands.recorded stands.numbers
