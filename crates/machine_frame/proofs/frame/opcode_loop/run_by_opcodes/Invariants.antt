use Rattle.std.proofs.Common.{◌+◌, ◌*◌, ◌<◌, length}
use Rattle.std.specs.Prelude.{slice_get}
use Rattle.machine_frame.proofs.FrameLemmas.Fueled.{HasCome, weight}
use Rattle.machine_frame.proofs.frame.opcode_loop.run_by_opcodes.Given as goal

abbrev pub invariant-loop-fuel_left : goal.invariant-loop-fuel_left
invariant-loop-fuel_left l =
    (l.next < length l.frame.opcodes.now)
    × HasCome l.frame.opcodes.now l.frame.table.now l.frame.base l.frame.floor l.position l.fuel
    l.fn.slots l.fn.globals l.fn.memory
    l.fuel_left l.next l.slots l.globals l.memory

abbrev pub decreases-loop-fuel_left : goal.decreases-loop-fuel_left
decreases-loop-fuel_left l = 2 * l.fuel_left + weight (slice_get l.frame.opcodes.now l.next)
