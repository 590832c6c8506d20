use Rattle.state_image.proofs.Whole.{told_apart}
use Rattle.state_image.proofs.laws.process_images_are_distinct.Goals as goal

pub returns : goal.returns
returns c = told_apart
