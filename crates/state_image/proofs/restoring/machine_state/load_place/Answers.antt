use Rattle.state_image.specs.rules.LentFrames.{frame_of}
use Rattle.state_image.proofs.RestoreLemmas.MachineRead.{when_done}
use Rattle.state_image.proofs.restoring.machine_state.load_place.Goals as goal

pub returns-in_default-clause-refused : goal.returns-in_default-clause-refused
returns-in_default-clause-refused c refused place rest may is =
    c.in_default.ensures.none place rest may.0 is

pub returns-clause-made : goal.returns-clause-made
returns-clause-made c =
    when_done c.push_place.result c.push_place.ensures.pushed
    (λ is. record { field = frame_of c.in-Some.frame; has = c.in-Some.ensures; is = is })
