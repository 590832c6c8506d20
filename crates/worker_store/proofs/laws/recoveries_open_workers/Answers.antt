use Rattle.worker_store.proofs.LawLemmas.Recovering.{retold_is_held, recovery_opens}
use Rattle.worker_store.proofs.laws.recoveries_open_workers.Goals as goal

pub returns-clause-told : goal.returns-clause-told
returns-clause-told g c = retold_is_held

pub returns-clause-opens : goal.returns-clause-opens
returns-clause-opens g c = recovery_opens g.D.Disk.medium
