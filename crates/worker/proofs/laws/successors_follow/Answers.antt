use Rattle.worker.proofs.FollowingLemmas.{successors_follow as follow}
use Rattle.worker.proofs.laws.successors_follow.Goals as goal

pub returns : goal.returns
returns g c = follow g.D.Disk.medium g.N.Disk.medium
