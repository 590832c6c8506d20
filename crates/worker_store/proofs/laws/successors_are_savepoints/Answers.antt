use Rattle.worker_store.proofs.LawLemmas.Succeeding.{successor_is_at_hand, successor_holds_promise}
use Rattle.worker_store.proofs.laws.successors_are_savepoints.Goals as goal

pub returns-clause-first : goal.returns-clause-first
returns-clause-first c = successor_is_at_hand

pub returns-clause-holds : goal.returns-clause-holds
returns-clause-holds c = successor_holds_promise
