use Rattle.worker.proofs.DurableLemmas.OnDisk.{open_workers_have_one_version}
use Rattle.worker.proofs.laws.open_workers_have_one_version.Goals as goal

pub returns : goal.returns
returns g c = open_workers_have_one_version g.D.Disk.medium
