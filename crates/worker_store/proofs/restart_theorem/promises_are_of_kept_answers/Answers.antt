use Rattle.worker_store.proofs.RestartLemmas.Promised.{promises_of_kept}
use Rattle.worker_store.proofs.restart_theorem.promises_are_of_kept_answers.Goals as goal

pub returns : goal.returns
returns c = promises_of_kept
