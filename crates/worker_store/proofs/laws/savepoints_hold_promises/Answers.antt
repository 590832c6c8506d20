use Rattle.worker_store.proofs.LawLemmas.Carrying.{held_at_holds_promise, promise_is_held_at}
use Rattle.worker_store.proofs.LawLemmas.Carrying.{less_is_held, next_is_held, fresh_is_held}
use Rattle.worker_store.proofs.LawLemmas.Carrying.{saved_is_held, opening_is_held, point_is_at}
use Rattle.worker_store.proofs.LawLemmas.Carrying.{point_opens, marked_is_held, blank_is_unopened}
use Rattle.worker_store.proofs.laws.savepoints_hold_promises.Goals as goal

pub returns-clause-stands : goal.returns-clause-stands
returns-clause-stands c = held_at_holds_promise

pub returns-clause-held : goal.returns-clause-held
returns-clause-held c = promise_is_held_at

pub returns-clause-less : goal.returns-clause-less
returns-clause-less c = less_is_held

pub returns-clause-next : goal.returns-clause-next
returns-clause-next c = next_is_held

pub returns-clause-fresh : goal.returns-clause-fresh
returns-clause-fresh c = fresh_is_held

pub returns-clause-saved : goal.returns-clause-saved
returns-clause-saved c = saved_is_held

pub returns-clause-opening : goal.returns-clause-opening
returns-clause-opening c = opening_is_held

pub returns-clause-at : goal.returns-clause-at
returns-clause-at c = point_is_at

pub returns-clause-opens : goal.returns-clause-opens
returns-clause-opens c = point_opens

pub returns-clause-marked : goal.returns-clause-marked
returns-clause-marked c = marked_is_held

pub returns-clause-blank : goal.returns-clause-blank
returns-clause-blank c = blank_is_unopened
