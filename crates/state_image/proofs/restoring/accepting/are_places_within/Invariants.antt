use Rattle.state_image.proofs.Accepted.{AreWithinBefore}
use Rattle.state_image.proofs.restoring.accepting.are_places_within.Given as goal

abbrev pub invariant-loop-index : goal.invariant-loop-index
invariant-loop-index l = AreWithinBefore l.index l.machine.state.frames
