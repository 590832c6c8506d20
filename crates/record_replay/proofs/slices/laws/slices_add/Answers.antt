use Rattle.record_replay.proofs.Adding.{slices_add}
use Rattle.record_replay.proofs.slices.laws.slices_add.Goals as goal

pub returns : goal.returns
returns g c = slices_add g.S.Source.gives g.O.Outlet.takes
