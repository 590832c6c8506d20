use Rattle.worker_store.proofs.LawLemmas.Underway.{questions_are_asked, answers_go_on}
use Rattle.worker_store.proofs.LawLemmas.Underway.{answers_are_kept, other_answers_break}
use Rattle.worker_store.proofs.events.slices_ask_questions.Goals as goal

pub returns-clause-asked : goal.returns-clause-asked
returns-clause-asked c = questions_are_asked

pub returns-clause-answered : goal.returns-clause-answered
returns-clause-answered c = answers_go_on

pub returns-clause-kept : goal.returns-clause-kept
returns-clause-kept c = answers_are_kept

pub returns-clause-others : goal.returns-clause-others
returns-clause-others c = other_answers_break
