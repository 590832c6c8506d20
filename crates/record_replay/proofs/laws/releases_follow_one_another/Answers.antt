use Rattle.record_replay.proofs.Following.{in_order, lines_in_order}
use Rattle.record_replay.proofs.laws.releases_follow_one_another.Goals as goal

pub returns-clause-order : goal.returns-clause-order
returns-clause-order g c = in_order _

pub returns-clause-numbers : goal.returns-clause-numbers
returns-clause-numbers g c = lines_in_order
