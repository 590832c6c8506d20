use Rattle.state_image.proofs.ExamplesHold.{images}
use Rattle.state_image.proofs.laws.process_images_on_examples.Goals as goal

pub returns : goal.returns
returns c = images
