use Rattle.worker.proofs.LifeLemmas.Replying.{lives_end_as_said as end_so}
use Rattle.worker.proofs.laws.lives_end_as_said.Goals as goal

pub returns : goal.returns
returns g c = end_so g.D.Disk.medium g.S.Source.gives g.O.Outlet.takes
