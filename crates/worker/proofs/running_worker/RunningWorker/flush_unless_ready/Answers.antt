use Rattle.std.proofs.Common.{refl}
use Rattle.std.proofs.lemmas.Result.{err_from_is_err_and}
use Rattle.worker.proofs.PayingLemmas.{leaves_none}
use Rattle.worker.proofs.DurableLemmas.Freeing.{fails_held}
use Rattle.worker.proofs.running_worker.RunningWorker.flush_unless_ready.Goals as goal

pub returns-then-is_empty-clause-store : goal.returns-then-is_empty-clause-store
returns-then-is_empty-clause-store g c =
    leaves_none c.args.self.now.store (g.D.Disk.medium c.args.disk.now)

pub returns-then-is_ready-clause-store : goal.returns-then-is_ready-clause-store
returns-then-is_ready-clause-store g c =
    leaves_none c.args.self.now.store (g.D.Disk.medium c.args.disk.now)

pub returns-in_err-flush_all-clause-fails : goal.returns-in_err-flush_all-clause-fails
returns-in_err-flush_all-clause-fails g c =
    let p = err_from_is_err_and c.from_residual.result c.from_residual.ensures.1 in
    rw (p.1, p.2) (fails_held g.D.Disk.medium g.O.Outlet.takes c.args.self.now c.args.self.now
    c.args.queue.now.lines _ c.in_err-flush_all.field-0.0 c.flush_all.new.self c.args.disk.now
    c.flush_all.new.disk c.args.outlet.now c.flush_all.new.outlet refl (cc)
    c.in_err-flush_all.ensures.fails)
