use Rattle.worker_store.proofs.LawLemmas.Points.{is_at_its_savepoint, point_stands}
use Rattle.worker_store.proofs.LawLemmas.Points.{point_stands_alone, read_alike_is_at_savepoint}
use Rattle.worker_store.proofs.laws.disks_are_at_savepoints.Goals as goal

pub returns-clause-point : goal.returns-clause-point
returns-clause-point c = is_at_its_savepoint

pub returns-clause-stands : goal.returns-clause-stands
returns-clause-stands c = point_stands

pub returns-clause-alone : goal.returns-clause-alone
returns-clause-alone c = point_stands_alone

pub returns-clause-alike : goal.returns-clause-alike
returns-clause-alike c = read_alike_is_at_savepoint
