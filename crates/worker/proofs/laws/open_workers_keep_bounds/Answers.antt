use Rattle.worker.proofs.DurableLemmas.Bounds.{open_workers_keep_bounds, staying_keeps_bounds}
use Rattle.worker.proofs.laws.open_workers_keep_bounds.Goals as goal

pub returns-clause-keeps : goal.returns-clause-keeps
returns-clause-keeps g c = open_workers_keep_bounds g.D.Disk.medium

pub returns-clause-stays : goal.returns-clause-stays
returns-clause-stays g c = staying_keeps_bounds g.D.Disk.medium
