use Rattle.worker_store.proofs.RestartLemmas.Refusing.{refused_workers}
use Rattle.worker_store.proofs.restart_theorem.refused_workers.Goals as goal

pub returns : goal.returns
returns c = refused_workers
