use Rattle.std.proofs.Common.{◌≡◌, ◌-◌}
use Rattle.record_replay.proofs.Playing.{Going}
use Rattle.record_replay.proofs.replaying.run_to_step.Given as goal

abbrev pub invariant-loop-fuel_left : goal.invariant-loop-fuel_left
invariant-loop-fuel_left g l = record {
  going : Going g.O.Outlet.takes l.fn.process l.process l.entry l.fn.outlet l.outlet;
  guest : l.process.machine.guest ≡ l.fn.process.machine.guest;
}

abbrev pub decreases-loop-fuel_left : goal.decreases-loop-fuel_left
decreases-loop-fuel_left g l = l.entry.step - l.process.steps
