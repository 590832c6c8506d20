use Rattle.record_replay.proofs.Following.{exchanges_in_order}
use Rattle.record_replay.proofs.laws.exchanges_follow_one_another.Goals as goal

pub returns : goal.returns
returns g c = exchanges_in_order _ _
