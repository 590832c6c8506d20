use Rattle.worker_store.proofs.LawLemmas.Before.{filling_keeps_worker, commit_keeps_worker}
use Rattle.worker_store.proofs.LawLemmas.Before.{replacing_begins}
use Rattle.worker_store.proofs.laws.commits_keep_what_stands.Goals as goal

pub returns-clause-filled : goal.returns-clause-filled
returns-clause-filled c = filling_keeps_worker

pub returns-clause-committed : goal.returns-clause-committed
returns-clause-committed c = commit_keeps_worker

pub returns-clause-replaced : goal.returns-clause-replaced
returns-clause-replaced c = replacing_begins
