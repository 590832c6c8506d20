use Rattle.disk_layout.proofs.ReadingLemmas.ConfigLemmas.{config_cut}
use Rattle.disk_layout.proofs.laws.one_spelling.Goals as goal

pub returns : goal.returns
returns c = config_cut
