use Rattle.disk_layout.proofs.LongRecordLemmas.{journals_have_room}
use Rattle.disk_layout.proofs.laws.journals_have_room.Goals as goal

pub returns : goal.returns
returns c = journals_have_room
