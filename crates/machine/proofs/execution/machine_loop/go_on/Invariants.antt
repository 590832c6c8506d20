use Rattle.std.proofs.Common.{◌+◌, ◌*◌}
use Rattle.machine.specs.Execution.Codes.{administrative_work}
use Rattle.machine.proofs.CycleLemmas.Whole.{HasCome}
use Rattle.machine.proofs.execution.machine_loop.go_on.Given as goal

abbrev pub invariant-loop-more : goal.invariant-loop-more
invariant-loop-more l = HasCome l.code l.fn.state l.fuel l.fuel_left l.state

abbrev pub decreases-loop-more : goal.decreases-loop-more
decreases-loop-more l = 2 * l.fuel_left + administrative_work l.state
