use Rattle.record_replay.proofs.Failing.{slices_add_in_vain}
use Rattle.record_replay.proofs.slices.laws.slices_add_in_vain.Goals as goal

pub returns : goal.returns
returns g c = slices_add_in_vain g.S.Source.gives g.O.Outlet.takes
