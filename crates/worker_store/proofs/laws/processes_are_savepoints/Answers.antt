use Rattle.worker_store.proofs.LawLemmas.AtHand.{shown_is_saved, shown_is_numbered, next_is_at_hand}
use Rattle.worker_store.proofs.LawLemmas.AtHand.{first_is_at_hand, version_stays}
use Rattle.worker_store.proofs.laws.processes_are_savepoints.Goals as goal

pub returns-clause-saved : goal.returns-clause-saved
returns-clause-saved c = shown_is_saved

pub returns-clause-numbered : goal.returns-clause-numbered
returns-clause-numbered c = shown_is_numbered

pub returns-clause-version : goal.returns-clause-version
returns-clause-version c = version_stays

pub returns-clause-next : goal.returns-clause-next
returns-clause-next c = next_is_at_hand

pub returns-clause-first : goal.returns-clause-first
returns-clause-first c = first_is_at_hand
