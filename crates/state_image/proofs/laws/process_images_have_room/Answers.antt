use Rattle.state_image.proofs.Room.{has_room}
use Rattle.state_image.proofs.Spelled.{is_of_bytes}
use Rattle.state_image.proofs.laws.process_images_have_room.Goals as goal

pub returns-clause-room : goal.returns-clause-room
returns-clause-room c = has_room

pub returns-clause-bytes : goal.returns-clause-bytes
returns-clause-bytes c = is_of_bytes
