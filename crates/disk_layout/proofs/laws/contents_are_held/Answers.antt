use Rattle.disk_layout.proofs.ContentsLemmas.{holds_what_is_written}
use Rattle.disk_layout.proofs.laws.contents_are_held.Goals as goal

pub returns : goal.returns
returns c = holds_what_is_written
