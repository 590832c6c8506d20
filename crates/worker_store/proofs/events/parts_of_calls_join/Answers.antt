use Rattle.worker_store.proofs.LawLemmas.Pieces.{parts_join, parts_are_foretold, ends_join}
use Rattle.worker_store.proofs.events.parts_of_calls_join.Goals as goal

pub returns-clause-joined : goal.returns-clause-joined
returns-clause-joined c = parts_join

pub returns-clause-foretold : goal.returns-clause-foretold
returns-clause-foretold c = parts_are_foretold

pub returns-clause-ended : goal.returns-clause-ended
returns-clause-ended c = ends_join
