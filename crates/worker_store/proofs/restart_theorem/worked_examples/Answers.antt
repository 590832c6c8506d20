use Rattle.worker_store.proofs.RestartLemmas.Examples.{course_examples, reply_examples}
use Rattle.worker_store.proofs.restart_theorem.worked_examples.Goals as goal

pub returns-clause-courses : goal.returns-clause-courses
returns-clause-courses c = course_examples

pub returns-clause-replies : goal.returns-clause-replies
returns-clause-replies c = reply_examples
