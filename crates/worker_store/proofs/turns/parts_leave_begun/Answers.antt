use Rattle.worker_store.proofs.LawLemmas.TurnLemmas.{parts_leave_begun}
use Rattle.worker_store.proofs.turns.parts_leave_begun.Goals as goal

pub returns : goal.returns
returns c = parts_leave_begun
