use Rattle.std.proofs.Common.{◌-◌}
use Rattle.process.proofs.Looping.{IsOn}
use Rattle.process.proofs.stretch.take_steps.Given as goal

abbrev pub invariant-loop-stop : goal.invariant-loop-stop
invariant-loop-stop l = IsOn l.fn.machine l.fn.host l.fn.fuel l.machine l.host l.steps

abbrev pub decreases-loop-stop : goal.decreases-loop-stop
decreases-loop-stop l = l.fn.fuel - l.steps
