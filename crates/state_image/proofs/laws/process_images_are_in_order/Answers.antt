use Rattle.state_image.proofs.WholeRead.{process_image_read, process_image_in_order}
use Rattle.state_image.proofs.laws.process_images_are_in_order.Goals as goal

pub returns : goal.returns
returns c = λ s bytes. (process_image_read s bytes, process_image_in_order s bytes)
