use Rattle.worker_store.proofs.LawLemmas.Keeping.{barrier_at_any_moment, barrier_in_the_end}
use Rattle.worker_store.proofs.LawLemmas.Keeping.{append_goes_on, stays_journaled, begins_journaled}
use Rattle.worker_store.proofs.laws.journals_carry_workers.Goals as goal

pub returns-clause-barrier : goal.returns-clause-barrier
returns-clause-barrier g c = barrier_at_any_moment g.D.Disk.medium

pub returns-clause-durable : goal.returns-clause-durable
returns-clause-durable g c = barrier_in_the_end g.D.Disk.medium

pub returns-clause-appended : goal.returns-clause-appended
returns-clause-appended g c = append_goes_on g.D.Disk.medium

pub returns-clause-stays : goal.returns-clause-stays
returns-clause-stays g c = stays_journaled g.D.Disk.medium

pub returns-clause-begins : goal.returns-clause-begins
returns-clause-begins g c = begins_journaled g.D.Disk.medium
