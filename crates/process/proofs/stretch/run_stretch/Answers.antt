use Rattle.std.proofs.Common.{ℕ, ◌+◌, ◌-◌, ◌≤◌, List, sym, subst, arith}
use Rattle.machine.specs.declared.execution.pause.Pause.{Pause}
use Rattle.wasi_calls.specs.rules.Calls.{AreArguments}
use Rattle.wasi_abi.specs.rules.Calls.{parameters_of}
use Rattle.machine.specs.rules.Runs.{RunsFor}
use Rattle.process.specs.Parts.{WaitsAtCall}
use Rattle.process.specs.declared.stretch.Stretch.{Stretch}
use Rattle.process.specs.Stretches.{StepsAt, ComesToShown}
use Rattle.process.proofs.Counting.{comes_within}
use Rattle.process.proofs.Stretching.{fuel_left_within, spent, call_is_typed, waits_at, stepped_on}
use Rattle.process.proofs.Stretching.{returned, trapped}
use Rattle.process.proofs.stretch.run_stretch.Goals as goal

pub overflow_sub-ran : goal.overflow_sub-ran
overflow_sub-ran c =
    let r = c.requires.runs in
    fuel_left_within c.run-why.new.self r.guest.program r.process.configuration c.args.fuel
    c.run-why.result.fuel_left c.run-why.result.why
    (c.run-why.ensures.runs r.guest.program r.process.configuration r.shows.configuration)

pub step-next-requires-clause-typed : goal.step-next-requires-clause-typed
step-next-requires-clause-typed c =
    let r = c.requires.runs in
    let P : Pause → Type 0 =
    λ why. RunsFor c.run-why.new.self r.guest.program r.process.configuration c.args.fuel
    c.run-why.result.fuel_left why in
    let h = subst P c.in-Host.is
    (c.run-why.ensures.runs r.guest.program r.process.configuration r.shows.configuration) in
    let Q : List ℕ → Type 0 = λ ns. AreArguments (parameters_of c.in-Host.asked.call) ns in
    subst Q (sym c.as_slice-arguments.ensures)
    (call_is_typed c.args.machine.now c.run-why.new.self c.args.host.now c.run-why.ensures.same
    r.guest r.process r.shows r.running c.args.fuel c.run-why.result.fuel_left c.in-Host.asked.call
    c.in-Host.asked.arguments h)

pub step-next-requires-clause-waits : goal.step-next-requires-clause-waits
step-next-requires-clause-waits c =
    let r = c.requires.runs in
    let P : Pause → Type 0 =
    λ why. RunsFor c.run-why.new.self r.guest.program r.process.configuration c.args.fuel
    c.run-why.result.fuel_left why in
    let h = subst P c.in-Host.is
    (c.run-why.ensures.runs r.guest.program r.process.configuration r.shows.configuration) in
    let Q : List ℕ → Type 0 =
    λ ns. WaitsAtCall c.run-why.new.self c.args.host.now c.in-Host.asked.call ns in
    subst Q (sym c.as_slice-arguments.ensures)
    (waits_at c.args.machine.now c.run-why.new.self c.args.host.now c.run-why.ensures.same
    r.guest r.process r.shows r.running c.args.fuel c.run-why.result.fuel_left c.in-Host.asked.call
    c.in-Host.asked.arguments h)

pub overflow_add-result : goal.overflow_add-result
overflow_add-result c =
    let r = c.requires.runs in
    let P : Pause → Type 0 =
    λ why. RunsFor c.run-why.new.self r.guest.program r.process.configuration c.args.fuel
    c.run-why.result.fuel_left why in
    let Q : List ℕ → Type 0 =
    λ ns. StepsAt c.run-why.new.self c.args.host.now c.in-Host.asked.call ns c.step-next.result
    c.step-next.new.machine c.step-next.new.host in
    let come = stepped_on c.args.machine.now c.run-why.new.self c.args.host.now
    c.run-why.ensures.same r.guest r.process r.shows r.running c.args.fuel
    c.run-why.result.fuel_left c.in-Host.asked.call c.in-Host.asked.arguments
    (subst P c.in-Host.is
    (c.run-why.ensures.runs r.guest.program r.process.configuration r.shows.configuration))
    c.step-next.new.machine c.step-next.new.host c.step-next.result
    (subst Q c.as_slice-arguments.ensures c.step-next.ensures.steps) in
    let within : (c.args.fuel - c.run-why.result.fuel_left)
    + c.step-next.result.steps ≤ c.args.fuel = comes_within r.guest r.process come.process
    c.args.fuel ((c.args.fuel - c.run-why.result.fuel_left)
    + c.step-next.result.steps) c.step-next.new.host.host.lines c.step-next.result.stop
    come.comes in
    let fits = c.ranges.fuel.fits in
    omega (arith, within, fits)

pub returns-in-Spent-clause-stretches : goal.returns-in-Spent-clause-stretches
returns-in-Spent-clause-stretches c = λ guest p shows running.
    let P : Pause → Type 0 =
    λ why. RunsFor c.run-why.new.self guest.program p.configuration c.args.fuel
    c.run-why.result.fuel_left why in
    spent c.args.machine.now c.run-why.new.self c.args.host.now c.run-why.ensures.same guest p shows
    running c.args.fuel c.run-why.result.fuel_left c.requires.none_waits
    (subst P c.in-Spent.is
    (c.run-why.ensures.runs guest.program p.configuration shows.configuration))

pub returns-in-Host-clause-stretches : goal.returns-in-Host-clause-stretches
returns-in-Host-clause-stretches c = λ guest p shows running.
    let P : Pause → Type 0 =
    λ why. RunsFor c.run-why.new.self guest.program p.configuration c.args.fuel
    c.run-why.result.fuel_left why in
    let Q : List ℕ → Type 0 =
    λ ns. StepsAt c.run-why.new.self c.args.host.now c.in-Host.asked.call ns c.step-next.result
    c.step-next.new.machine c.step-next.new.host in
    stepped_on c.args.machine.now c.run-why.new.self c.args.host.now c.run-why.ensures.same guest p
    shows running c.args.fuel c.run-why.result.fuel_left c.in-Host.asked.call
    c.in-Host.asked.arguments
    (subst P c.in-Host.is
    (c.run-why.ensures.runs guest.program p.configuration shows.configuration))
    c.step-next.new.machine c.step-next.new.host c.step-next.result
    (subst Q c.as_slice-arguments.ensures c.step-next.ensures.steps)

pub returns-in-Returned-clause-stretches : goal.returns-in-Returned-clause-stretches
returns-in-Returned-clause-stretches c = λ guest p shows running.
    let P : Pause → Type 0 =
    λ why. RunsFor c.run-why.new.self guest.program p.configuration c.args.fuel
    c.run-why.result.fuel_left why in
    let Q : Stretch → Type 0 =
    λ s. ComesToShown c.run-why.new.self c.end.new.host guest p c.args.fuel s in
    subst Q (sym c.end.ensures.is)
    (returned c.args.machine.now c.run-why.new.self c.args.host.now c.run-why.ensures.same guest p
    shows running c.args.fuel c.run-why.result.fuel_left c.end.new.host c.end.ensures.ended
    c.requires.none_waits
    (c.end.ensures.shown p.host shows.host)
    (subst P c.in-Returned.is
    (c.run-why.ensures.runs guest.program p.configuration shows.configuration)))

pub returns-in-Trapped-clause-stretches : goal.returns-in-Trapped-clause-stretches
returns-in-Trapped-clause-stretches c = λ guest p shows running.
    let P : Pause → Type 0 =
    λ why. RunsFor c.run-why.new.self guest.program p.configuration c.args.fuel
    c.run-why.result.fuel_left why in
    let Q : Stretch → Type 0 =
    λ s. ComesToShown c.run-why.new.self c.end-in-Trapped.new.host guest p c.args.fuel s in
    subst Q (sym c.end-in-Trapped.ensures.is)
    (trapped c.args.machine.now c.run-why.new.self c.args.host.now c.run-why.ensures.same guest p
    shows running c.args.fuel c.run-why.result.fuel_left c.end-in-Trapped.new.host
    c.end-in-Trapped.ensures.ended c.requires.none_waits
    (c.end-in-Trapped.ensures.shown p.host shows.host) c.in-Trapped.why
    (subst P c.in-Trapped.is
    (c.run-why.ensures.runs guest.program p.configuration shows.configuration)))
