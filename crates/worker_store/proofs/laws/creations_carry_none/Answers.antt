use Rattle.worker_store.proofs.LawLemmas.Passing.{zeros_at_any_moment, zeros_in_the_end}
use Rattle.worker_store.proofs.LawLemmas.Passing.{run_at_any_moment}
use Rattle.worker_store.proofs.LawLemmas.Passing.{zero_runs_in_the_end, first_fill_at_any_moment}
use Rattle.worker_store.proofs.LawLemmas.Passing.{first_commit_at_any_moment}
use Rattle.worker_store.proofs.LawLemmas.Passing.{first_commit_in_the_end}
use Rattle.worker_store.proofs.LawLemmas.Passing.{super_at_any_moment, super_in_the_end}
use Rattle.worker_store.proofs.laws.creations_carry_none.Goals as goal

pub returns-clause-torn : goal.returns-clause-torn
returns-clause-torn g c = zeros_at_any_moment g.D.Disk.medium

pub returns-clause-zeros : goal.returns-clause-zeros
returns-clause-zeros g c = zeros_in_the_end g.D.Disk.medium

pub returns-clause-behind : goal.returns-clause-behind
returns-clause-behind g c = run_at_any_moment g.D.Disk.medium

pub returns-clause-runs : goal.returns-clause-runs
returns-clause-runs g c = zero_runs_in_the_end g.D.Disk.medium

pub returns-clause-filled : goal.returns-clause-filled
returns-clause-filled g c = first_fill_at_any_moment g.D.Disk.medium

pub returns-clause-committed : goal.returns-clause-committed
returns-clause-committed g c = first_commit_at_any_moment g.D.Disk.medium

pub returns-clause-awaits : goal.returns-clause-awaits
returns-clause-awaits g c = first_commit_in_the_end g.D.Disk.medium

pub returns-clause-super_torn : goal.returns-clause-super_torn
returns-clause-super_torn g c = super_at_any_moment g.D.Disk.medium

pub returns-clause-super_whole : goal.returns-clause-super_whole
returns-clause-super_whole g c = super_in_the_end g.D.Disk.medium
