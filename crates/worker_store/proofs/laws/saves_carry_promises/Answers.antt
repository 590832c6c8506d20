use Rattle.worker_store.proofs.LawLemmas.Saving.{save_at_any_moment, save_carries, done_saves_carry}
use Rattle.worker_store.proofs.LawLemmas.Saving.{failed_saves_carry, ends_promise_no_less}
use Rattle.worker_store.proofs.LawLemmas.Acts.{checkpoints_save, saving_ends_alike}
use Rattle.worker_store.proofs.LawLemmas.Acts.{upgrades_save, upgrades_widen, acts_may_fail}
use Rattle.worker_store.proofs.laws.saves_carry_promises.Goals as goal

pub returns-clause-moment : goal.returns-clause-moment
returns-clause-moment g c = save_at_any_moment g.D.Disk.medium

pub returns-clause-carries : goal.returns-clause-carries
returns-clause-carries g c = save_carries g.D.Disk.medium

pub returns-clause-checkpoint : goal.returns-clause-checkpoint
returns-clause-checkpoint g c = checkpoints_save

pub returns-clause-upgrade : goal.returns-clause-upgrade
returns-clause-upgrade g c = upgrades_save

pub returns-clause-widening : goal.returns-clause-widening
returns-clause-widening g c = upgrades_widen

pub returns-clause-pleads : goal.returns-clause-pleads
returns-clause-pleads g c = acts_may_fail

pub returns-clause-alike : goal.returns-clause-alike
returns-clause-alike g c = saving_ends_alike

pub returns-clause-done : goal.returns-clause-done
returns-clause-done g c = done_saves_carry g.D.Disk.medium

pub returns-clause-failed : goal.returns-clause-failed
returns-clause-failed g c = failed_saves_carry g.D.Disk.medium

pub returns-clause-ends : goal.returns-clause-ends
returns-clause-ends g c = ends_promise_no_less
