use Rattle.worker_store.proofs.RestartLemmas.SuccessionsHold.{succession_examples, rest_examples}
use Rattle.worker_store.proofs.RestartLemmas.SuccessionsHold.{history_examples}
use Rattle.worker_store.proofs.restart_theorem.succession_examples.Goals as goal

pub returns-clause-promises : goal.returns-clause-promises
returns-clause-promises c = succession_examples

pub returns-clause-rest : goal.returns-clause-rest
returns-clause-rest c = rest_examples

pub returns-clause-histories : goal.returns-clause-histories
returns-clause-histories c = history_examples
