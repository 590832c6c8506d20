use Rattle.std.proofs.Common.{◌∙◌, arith}
use Rattle.process.proofs.Looping.{begins, steps_within, stops_now, on_again, fewer_left}
use Rattle.process.proofs.stretch.take_steps.Goals as goal

pub loop-stop-init : goal.loop-stop-init
loop-stop-init c =
    begins c.args.machine.now c.args.host.now c.args.fuel c.requires.holds c.requires.few
    c.requires.none_waits c.requires.runs

pub overflow_sub-fuel : goal.overflow_sub-fuel
overflow_sub-fuel c = c.loop-stop.invariant.within

pub run_stretch-next-requires-clause-holds : goal.run_stretch-next-requires-clause-holds
run_stretch-next-requires-clause-holds c = c.loop-stop.invariant.holds

pub run_stretch-next-requires-clause-runs : goal.run_stretch-next-requires-clause-runs
run_stretch-next-requires-clause-runs c = c.loop-stop.invariant.runs

pub run_stretch-next-requires-clause-none_waits : goal.run_stretch-next-requires-clause-none_waits
run_stretch-next-requires-clause-none_waits c = c.loop-stop.invariant.none_waits

pub run_stretch-next-requires-clause-few : goal.run_stretch-next-requires-clause-few
run_stretch-next-requires-clause-few c = c.loop-stop.invariant.few

pub overflow_add-steps : goal.overflow_add-steps
overflow_add-steps c =
    let within =
    steps_within c.args.machine.now c.args.host.now c.args.fuel c.loop-stop.machine
    c.loop-stop.host c.loop-stop.steps c.loop-stop.invariant c.run_stretch-next.new.machine
    c.run_stretch-next.new.host c.run_stretch-next.result c.run_stretch-next.ensures.stretches in
    let fits = c.ranges.fuel.fits in
    omega (arith, within, fits)

pub returns-in-Some-clause-released : goal.returns-in-Some-clause-released
returns-in-Some-clause-released c = c.run_stretch-next.ensures.released
    ∙ c.loop-stop.invariant.released

pub returns-in-Some-clause-guest : goal.returns-in-Some-clause-guest
returns-in-Some-clause-guest c = c.run_stretch-next.ensures.guest ∙ c.loop-stop.invariant.guest

pub returns-in-Some-clause-stretches : goal.returns-in-Some-clause-stretches
returns-in-Some-clause-stretches c =
    stops_now c.args.machine.now c.args.host.now c.args.fuel c.loop-stop.machine c.loop-stop.host
    c.loop-stop.steps c.loop-stop.invariant c.run_stretch-next.new.machine
    c.run_stretch-next.new.host c.run_stretch-next.result c.run_stretch-next.ensures.stretches
    c.in-Some.stop c.in-Some.is

pub loop-stop-smaller : goal.loop-stop-smaller
loop-stop-smaller c =
    fewer_left c.args.machine.now c.args.host.now c.args.fuel c.loop-stop.machine c.loop-stop.host
    c.loop-stop.steps c.loop-stop.invariant c.run_stretch-next.new.machine
    c.run_stretch-next.new.host c.run_stretch-next.result c.run_stretch-next.ensures.stretches
    c.in_default.is

pub loop-stop-preserved : goal.loop-stop-preserved
loop-stop-preserved c =
    on_again c.args.machine.now c.args.host.now c.args.fuel c.loop-stop.machine c.loop-stop.host
    c.loop-stop.steps c.loop-stop.invariant c.run_stretch-next.new.machine
    c.run_stretch-next.new.host c.run_stretch-next.result c.run_stretch-next.ensures.stretches
    c.in_default.is c.run_stretch-next.ensures.holds c.run_stretch-next.ensures.few
    c.run_stretch-next.ensures.released c.run_stretch-next.ensures.guest
