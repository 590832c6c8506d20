use Rattle.state_image.proofs.RestoredReached.{restored_shows_reached}
use Rattle.state_image.proofs.laws.restored_processes_are_the_saved.Goals as goal

pub returns : goal.returns
returns c = restored_shows_reached
