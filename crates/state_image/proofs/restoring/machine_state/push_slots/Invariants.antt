use Rattle.std.proofs.Common.{◌≡◌, ◌≢◌, [], length}
use Rattle.state_image.specs.restoring.Machines.{with_slots_behind}
use Rattle.state_image.proofs.restoring.machine_state.push_slots.Given as goal

abbrev pub invariant-loop-word : goal.invariant-loop-word
invariant-loop-word l =
    (l.machine.state.frames ≢ [])
    × (with_slots_behind l.words l.machine ≡ with_slots_behind l.fn.words l.fn.machine)

abbrev pub decreases-loop-word : goal.decreases-loop-word
decreases-loop-word l = length l.words
