use Rattle.worker_store.proofs.LawLemmas.Passing.{fill_keeps_at_any_moment}
use Rattle.worker_store.proofs.LawLemmas.Passing.{commit_keeps_at_any_moment}
use Rattle.worker_store.proofs.LawLemmas.Passing.{commit_keeps_in_the_end}
use Rattle.worker_store.proofs.laws.recoveries_carry_workers.Goals as goal

pub returns-clause-filled : goal.returns-clause-filled
returns-clause-filled g c = fill_keeps_at_any_moment g.D.Disk.medium

pub returns-clause-committed : goal.returns-clause-committed
returns-clause-committed g c = commit_keeps_at_any_moment g.D.Disk.medium

pub returns-clause-replaced : goal.returns-clause-replaced
returns-clause-replaced g c = commit_keeps_in_the_end g.D.Disk.medium
