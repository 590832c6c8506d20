use Rattle.worker_store.proofs.RestartLemmas.RefusingSuccessors.{refused_successors}
use Rattle.worker_store.proofs.restart_theorem.refused_successors.Goals as goal

pub returns : goal.returns
returns c = refused_successors
