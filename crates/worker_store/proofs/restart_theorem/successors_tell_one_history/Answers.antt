use Rattle.worker_store.proofs.RestartLemmas.Successions.{succession, successive_tell_all}
use Rattle.worker_store.proofs.restart_theorem.successors_tell_one_history.Goals as goal

pub returns-clause-two : goal.returns-clause-two
returns-clause-two c = succession

pub returns-clause-all : goal.returns-clause-all
returns-clause-all c = successive_tell_all
