use Rattle.worker_store.proofs.RestartLemmas.Promised.{calls_join}
use Rattle.worker_store.proofs.restart_theorem.calls_join.Goals as goal

pub returns : goal.returns
returns c = calls_join
