use Rattle.worker_store.proofs.LawLemmas.Carrying.{carried_keeps, barrier_carries}
use Rattle.worker_store.proofs.LawLemmas.Carrying.{barrier_carries_on, commit_carries}
use Rattle.worker_store.proofs.LawLemmas.Carrying.{savepoint_carries, creation_carries}
use Rattle.worker_store.proofs.LawLemmas.Carrying.{begins_carried, stays_carried}
use Rattle.worker_store.proofs.laws.disks_carry_promises.Goals as goal

pub returns-clause-keeps : goal.returns-clause-keeps
returns-clause-keeps g c = carried_keeps g.D.Disk.medium

pub returns-clause-barrier : goal.returns-clause-barrier
returns-clause-barrier g c = barrier_carries g.D.Disk.medium

pub returns-clause-durable : goal.returns-clause-durable
returns-clause-durable g c = barrier_carries_on g.D.Disk.medium

pub returns-clause-commit : goal.returns-clause-commit
returns-clause-commit g c = commit_carries g.D.Disk.medium

pub returns-clause-savepoint : goal.returns-clause-savepoint
returns-clause-savepoint g c = savepoint_carries g.D.Disk.medium

pub returns-clause-creation : goal.returns-clause-creation
returns-clause-creation g c = creation_carries g.D.Disk.medium

pub returns-clause-begins : goal.returns-clause-begins
returns-clause-begins g c = begins_carried g.D.Disk.medium

pub returns-clause-stays : goal.returns-clause-stays
returns-clause-stays g c = stays_carried g.D.Disk.medium
