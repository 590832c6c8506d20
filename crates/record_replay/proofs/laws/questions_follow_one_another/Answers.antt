use Rattle.record_replay.proofs.Following.{in_order}
use Rattle.record_replay.proofs.laws.questions_follow_one_another.Goals as goal

pub returns : goal.returns
returns g c = in_order _
