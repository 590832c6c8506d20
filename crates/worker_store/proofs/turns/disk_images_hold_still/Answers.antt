use Rattle.worker_store.proofs.LawLemmas.TurnLemmas.{told_still_holds, asked_still_holds}
use Rattle.worker_store.proofs.LawLemmas.TurnLemmas.{ended_still_holds}
use Rattle.worker_store.proofs.turns.disk_images_hold_still.Goals as goal

pub returns-clause-told : goal.returns-clause-told
returns-clause-told c = told_still_holds

pub returns-clause-asked : goal.returns-clause-asked
returns-clause-asked c = asked_still_holds

pub returns-clause-ended : goal.returns-clause-ended
returns-clause-ended c = ended_still_holds
