use Rattle.worker_store.proofs.LawLemmas.Raising.{all_syncs_are_held, quiet_syncs_are_held}
use Rattle.worker_store.proofs.LawLemmas.Raising.{answered_syncs_are_held, answer_is_on_record}
use Rattle.worker_store.proofs.LawLemmas.Raising.{moved_syncs_are_held}
use Rattle.worker_store.proofs.laws.syncs_are_held.Goals as goal

pub returns-clause-all : goal.returns-clause-all
returns-clause-all c = all_syncs_are_held

pub returns-clause-quiet : goal.returns-clause-quiet
returns-clause-quiet c = quiet_syncs_are_held

pub returns-clause-answered : goal.returns-clause-answered
returns-clause-answered c = answered_syncs_are_held

pub returns-clause-on_record : goal.returns-clause-on_record
returns-clause-on_record c = answer_is_on_record

pub returns-clause-moved : goal.returns-clause-moved
returns-clause-moved c = moved_syncs_are_held
