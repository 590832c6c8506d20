use Rattle.state_image.proofs.Shown.{saves_shown}
use Rattle.state_image.proofs.laws.saves_what_is_shown.Goals as goal

pub returns : goal.returns
returns c = saves_shown
