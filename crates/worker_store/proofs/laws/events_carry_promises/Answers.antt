use Rattle.worker_store.proofs.LawLemmas.Raising.{asked_carries, ended_carries}
use Rattle.worker_store.proofs.LawLemmas.Raising.{append_carries, carried_is_reached}
use Rattle.worker_store.proofs.LawLemmas.TurnLemmas.{told_carries, more_carries}
use Rattle.worker_store.proofs.laws.events_carry_promises.Goals as goal

pub returns-clause-told : goal.returns-clause-told
returns-clause-told g c = told_carries g.D.Disk.medium

pub returns-clause-asked : goal.returns-clause-asked
returns-clause-asked g c = asked_carries g.D.Disk.medium

pub returns-clause-more : goal.returns-clause-more
returns-clause-more g c = more_carries g.D.Disk.medium

pub returns-clause-ended : goal.returns-clause-ended
returns-clause-ended g c = ended_carries g.D.Disk.medium

pub returns-clause-appended : goal.returns-clause-appended
returns-clause-appended g c = append_carries g.D.Disk.medium

pub returns-clause-reached : goal.returns-clause-reached
returns-clause-reached g c = carried_is_reached g.D.Disk.medium
