use Rattle.worker_store.proofs.LawLemmas.Anew.{creation_opens}
use Rattle.worker_store.proofs.laws.creations_open_workers.Goals as goal

pub returns : goal.returns
returns g c = creation_opens g.D.Disk.medium
