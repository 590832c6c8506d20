use Rattle.worker_store.proofs.LawLemmas.Replacing.{new_point_begins, point_is_ready}
use Rattle.worker_store.proofs.LawLemmas.Replacing.{filling_keeps_point}
use Rattle.worker_store.proofs.LawLemmas.Replacing.{commit_leaves_one_of_two, commit_begins_next}
use Rattle.worker_store.proofs.laws.commits_leave_one_of_two.Goals as goal

pub returns-clause-begins : goal.returns-clause-begins
returns-clause-begins c = new_point_begins

pub returns-clause-ready : goal.returns-clause-ready
returns-clause-ready c = point_is_ready

pub returns-clause-filled : goal.returns-clause-filled
returns-clause-filled c = filling_keeps_point

pub returns-clause-committed : goal.returns-clause-committed
returns-clause-committed c = commit_leaves_one_of_two

pub returns-clause-replaced : goal.returns-clause-replaced
returns-clause-replaced c = commit_begins_next
