use Rattle.worker.proofs.AddingLemmas.{slices_on_disk_add}
use Rattle.worker.proofs.laws.slices_on_disk_add.Goals as goal

pub returns : goal.returns
returns g c = slices_on_disk_add g.S.Source.gives g.O.Outlet.takes
