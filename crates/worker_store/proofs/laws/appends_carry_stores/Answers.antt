use Rattle.worker_store.proofs.StoreLemmas.{append_stores}
use Rattle.worker_store.proofs.laws.appends_carry_stores.Goals as goal

pub returns : goal.returns
returns g c = append_stores g.D.Disk.medium
