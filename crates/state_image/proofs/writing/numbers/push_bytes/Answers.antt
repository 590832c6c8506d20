use Rattle.state_image.proofs.Pushing.{pushes_once}
use Rattle.state_image.proofs.writing.numbers.push_bytes.Goals as goal

pub returns : goal.returns
returns g c = pushes_once _ _ _ _ c.push.ensures
