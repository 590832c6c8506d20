use Rattle.machine_slots.proofs.TypedFrames.{typed_ready}
use Rattle.machine_slots.proofs.laws.typed_frames_are_ready.Goals as goal

pub returns : goal.returns
returns c = typed_ready
