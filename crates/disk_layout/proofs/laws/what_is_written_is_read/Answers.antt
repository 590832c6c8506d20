use Rattle.disk_layout.proofs.ReadingLemmas.WrittenLemmas.{reads_what_is_written}
use Rattle.disk_layout.proofs.laws.what_is_written_is_read.Goals as goal

pub returns : goal.returns
returns c = reads_what_is_written
