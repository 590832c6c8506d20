use Rattle.std.proofs.Common.{arith}
use Rattle.machine_frame.proofs.FrameLemmas.Steps.{frame_there}
use Rattle.machine_frame.proofs.FrameLemmas.Fueled.{begins, has_frame_now, come_on, come_to}
use Rattle.machine_frame.proofs.FrameLemmas.Fueled.{come_out, on_within, out_falls, ends_here}
use Rattle.machine_frame.proofs.FrameLemmas.Fueled.{stays_here, halts_here}
use Rattle.machine_frame.proofs.FrameLemmas.StraightRuns.{frame_in, straight_on, straight_halts}
use Rattle.machine_frame.proofs.FrameLemmas.StraightRuns.{no_heavier}
use Rattle.machine_frame.proofs.frame.opcode_loop.run_by_opcodes.Goals as goal

pub returns-then-next-end : goal.returns-then-next-end
returns-then-next-end c = rw c.at.ensures (ends_here begins tt c.if-next-end.true)

pub loop-fuel_left-init : goal.loop-fuel_left-init
loop-fuel_left-init c = (c.if-next-end.false, begins)

pub run_straight-stop-requires-clause-is_there : goal.run_straight-stop-requires-clause-is_there
run_straight-stop-requires-clause-is_there c = frame_in c.loop-fuel_left.invariant.1 c.requires

pub returns-in-Some : goal.returns-in-Some
returns-in-Some c =
    rw c.at-in-Some.ensures (straight_halts c.loop-fuel_left.invariant.1
    c.run_straight-stop.ensures.runs c.in-Some.is c.run_straight-stop.ensures.fueled)

pub step-requires-clause-is_there : goal.step-requires-clause-is_there
step-requires-clause-is_there c =
    let come = straight_on c.loop-fuel_left.invariant.1 c.run_straight-stop.ensures.runs
    c.in_default.is in
    has_frame_now come c.requires

pub loop-fuel_left-preserved-in-On : goal.loop-fuel_left-preserved-in-On
loop-fuel_left-preserved-in-On c =
    let come = straight_on c.loop-fuel_left.invariant.1 c.run_straight-stop.ensures.runs
    c.in_default.is in
    let moves = (rw c.in-On.is at c.step.ensures) in (
      on_within come c.requires moves,
      come_on come c.run_straight-stop.ensures.fueled moves,
    )

pub returns-then-to-end : goal.returns-then-to-end
returns-then-to-end c =
    let come = straight_on c.loop-fuel_left.invariant.1 c.run_straight-stop.ensures.runs
    c.in_default.is in
    let moves = (rw c.in-To.is at c.step.ensures) in
    rw c.at-then-to-end.ensures (ends_here
    (come_to come c.run_straight-stop.ensures.fueled moves) tt c.if-to-end.true)

pub loop-fuel_left-preserved-in-To : goal.loop-fuel_left-preserved-in-To
loop-fuel_left-preserved-in-To c =
    let come = straight_on c.loop-fuel_left.invariant.1 c.run_straight-stop.ensures.runs
    c.in_default.is in
    let moves = (rw c.in-To.is at c.step.ensures) in (
      c.if-to-end.false,
      come_to come c.run_straight-stop.ensures.fueled moves,
    )

pub returns-then-to-end-2 : goal.returns-then-to-end-2
returns-then-to-end-2 c =
    let come = straight_on c.loop-fuel_left.invariant.1 c.run_straight-stop.ensures.runs
    c.in_default.is in
    let moves = (rw c.in-Out.is at c.step.ensures) in
    rw c.at-then-to-end-2.ensures (ends_here (come_out come moves) tt c.if-to-end-2.true)

pub loop-fuel_left-smaller : goal.loop-fuel_left-smaller
loop-fuel_left-smaller c =
    let come = straight_on c.loop-fuel_left.invariant.1 c.run_straight-stop.ensures.runs
    c.in_default.is in
    let falls = out_falls come c.requires (rw c.in-Out.is at c.step.ensures)
    c.if-to-end-2.false in
    let heavier =
    no_heavier c.args.frame.opcodes.now c.loop-fuel_left.fuel_left c.loop-fuel_left.next
    c.run_straight-stop.result.fuel_left c.run_straight-stop.result.position
    c.run_straight-stop.ensures.on c.run_straight-stop.ensures.counted in
    omega (arith, falls, heavier)

pub loop-fuel_left-preserved : goal.loop-fuel_left-preserved
loop-fuel_left-preserved c =
    let come = straight_on c.loop-fuel_left.invariant.1 c.run_straight-stop.ensures.runs
    c.in_default.is in (
      c.if-to-end-2.false,
      come_out come (rw c.in-Out.is at c.step.ensures),
    )

pub returns-in-Halts : goal.returns-in-Halts
returns-in-Halts c =
    let come = straight_on c.loop-fuel_left.invariant.1 c.run_straight-stop.ensures.runs
    c.in_default.is in
    rw c.at-in-Halts.ensures (stays_here come c.in-Halts.halt c.step.new.slots c.step.new.globals
    c.step.new.memory c.run_straight-stop.ensures.fueled (rw c.in-Halts.is at c.step.ensures))

pub halt_without_fuel-requires : goal.halt_without_fuel-requires
halt_without_fuel-requires c =
    frame_there c.args.frame.opcodes.now c.args.frame.table.now c.args.frame.base
    c.args.frame.floor c.loop-fuel_left.next
    c.loop-fuel_left.slots c.loop-fuel_left.globals c.loop-fuel_left.memory
    (has_frame_now c.loop-fuel_left.invariant.1 c.requires)

pub returns : goal.returns
returns c =
    halts_here c.loop-fuel_left.invariant.1 c.halt_without_fuel.result (omega (
      arith,
      c.loop-fuel_left-test.false,
    )) c.halt_without_fuel.ensures
