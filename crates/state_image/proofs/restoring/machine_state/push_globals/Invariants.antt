use Rattle.std.proofs.Common.{◌≡◌, length}
use Rattle.state_image.specs.restoring.Machines.{with_globals_behind}
use Rattle.state_image.proofs.restoring.machine_state.push_globals.Given as goal

abbrev pub invariant-loop-word : goal.invariant-loop-word
invariant-loop-word l =
    with_globals_behind l.words l.machine ≡ with_globals_behind l.fn.words l.fn.machine

abbrev pub decreases-loop-word : goal.decreases-loop-word
decreases-loop-word l = length l.words
