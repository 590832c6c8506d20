use Rattle.std.proofs.Common.{subst, sym, Ok}
use Rattle.std.proofs.lemmas.Result.{err_from_is_err_and}
use Rattle.worker_store.specs.declared.store.WorkerStore.{WorkerStore}
use Rattle.worker.specs.StoreTurns.{LeavesStore}
use Rattle.worker.proofs.PayingLemmas.{leaves_none}
use Rattle.worker.proofs.DurableLemmas.Freeing.{fails_held}
use Rattle.worker.proofs.running_worker.RunningWorker.hold_or_flush.Goals as goal

pub returns-then-hold-clause-store : goal.returns-then-hold-clause-store
returns-then-hold-clause-store g c =
    let disk = g.D.Disk.medium c.args.disk.now in
    subst (λ (k : WorkerStore). LeavesStore {T = Unit {0}} (Ok tt) c.args.self.now.store k disk
    disk) (sym c.hold.ensures.store) (leaves_none c.args.self.now.store disk)

pub returns-in_err-flush_all-clause-fails : goal.returns-in_err-flush_all-clause-fails
returns-in_err-flush_all-clause-fails g c =
    let p = err_from_is_err_and c.from_residual.result c.from_residual.ensures.1 in
    let same = c.hold.ensures.unheld c.if-hold.false in
    let front = c.hold.ensures.front in
    rw (p.1, p.2) (fails_held g.D.Disk.medium g.O.Outlet.takes c.args.self.now c.hold.new.self
    c.args.queue.now.lines _ c.in_err-flush_all.field-0.0 c.flush_all.new.self c.args.disk.now
    c.flush_all.new.disk c.args.outlet.now c.flush_all.new.outlet same (cc)
    c.in_err-flush_all.ensures.fails)
