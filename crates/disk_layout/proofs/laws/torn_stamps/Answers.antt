use Rattle.disk_layout.proofs.StampLemmas.{shows_earlier, never_newer}
use Rattle.disk_layout.proofs.laws.torn_stamps.Goals as goal

pub returns : goal.returns
returns c = record { earlier = shows_earlier; never_newer = never_newer }
