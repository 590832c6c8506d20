use Rattle.std.proofs.Common.{refl, inl, inr}
use Rattle.std.proofs.lemmas.Result.{err_from_is_err_and}
use Rattle.record_replay.specs.declared.slices.fault.SliceFault.TheVariants as slice
use Rattle.worker.specs.declared.fault.WorkFault.TheVariants.{Work}
use Rattle.worker.specs.declared.running_worker.RunningWorker.{RunningWorker}
use Rattle.worker.specs.BatchTurns.{held_as_begun}
use Rattle.worker.proofs.DurableLemmas.Flushing.{flushes_not, flushes_queue, refuses_queue}
use Rattle.worker.proofs.DurableLemmas.Holding.{held_refused, waiting_refused}
use Rattle.worker.proofs.DurableLemmas.BatchFaults.{barrier_is}
use Rattle.worker.proofs.PayingLemmas.{barrier_leaves, barrier_leaves_then, failed_barrier_leaves}
use Rattle.worker.proofs.running_worker.RunningWorker.flush_all.Goals as goal

pub returns-in_err-barrier-clause-fails : goal.returns-in_err-barrier-clause-fails
returns-in_err-barrier-clause-fails g c =
    let p = err_from_is_err_and c.from_residual.result c.from_residual.ensures.1 in
    let stores = c.in_err-barrier.ensures.stores in
    rw (p.1, p.2) (
      inr stores.fails,
      inl (
        c.in_err-barrier.field-0.0,
        refl,
        barrier_is c.args.self.now.store (g.D.Disk.medium c.args.disk.now)
            (g.D.Disk.medium c.barrier.new.disk) c.in_err-barrier.field-0.0 stores.cause,
        refl,
        refl,
      ),
      flushes_not g.D.Disk.medium g.O.Outlet.takes c.args.self.now c.barrier.new.self
          c.args.disk.now c.barrier.new.disk stores.any_moment (held_as_begun c.args.held.now)
          c.in_err-barrier.field-0.0 c.args.outlet.now stores.cause,
    )

pub returns-in_err-release_held-clause-fails : goal.returns-in_err-release_held-clause-fails
returns-in_err-release_held-clause-fails g c =
    let p = err_from_is_err_and c.from_residual-in_err-release_held.result
    c.from_residual-in_err-release_held.ensures.1 in
    let stores = c.in_ok-barrier.ensures.stores in
    let new : RunningWorker = record c.args.self.now { store = c.barrier.new.self } in
    let refused = held_refused g.O.Outlet.takes (held_as_begun c.args.held.now)
    c.args.self.now.process
    c.args.outlet.now c.args.outlet.now c.release_held.new.outlet
    c.in_err-release_held.ensures.some in
    rw (p.1, p.2) (
      inl refl,
      inr (refl, refl, refused),
      refuses_queue g.D.Disk.medium g.O.Outlet.takes c.args.self.now c.barrier.new.self
          c.args.disk.now c.barrier.new.disk stores.any_moment (held_as_begun c.args.held.now)
          stores.durable new refl refl c.args.outlet.now c.release_held.new.outlet refl refused,
    )

pub returns-in_err-release_waiting-clause-fails : goal.returns-in_err-release_waiting-clause-fails
returns-in_err-release_waiting-clause-fails g c =
    let p = err_from_is_err_and c.from_residual-in_err-release_waiting.result
    c.from_residual-in_err-release_waiting.ensures.1 in
    let stores = c.in_ok-barrier.ensures.stores in
    let some = c.in_err-release_waiting.ensures.some in
    let new : RunningWorker = record c.args.self.now {
      process = c.release_waiting.new.process;
      store = c.barrier.new.self;
    } in
    let refused = waiting_refused g.O.Outlet.takes (held_as_begun c.args.held.now)
    c.args.self.now.process c.args.outlet.now c.release_held.new.outlet
    c.release_waiting.new.outlet c.release_waiting.new.process
    c.in_ok-release_held.ensures.all some in
    rw (p.1, p.2) (
      inl refl,
      inr (refl, some.same, refused),
      refuses_queue g.D.Disk.medium g.O.Outlet.takes c.args.self.now c.barrier.new.self
          c.args.disk.now c.barrier.new.disk stores.any_moment (held_as_begun c.args.held.now)
          stores.durable new refl refl c.args.outlet.now c.release_waiting.new.outlet some.same
          refused,
    )

pub returns-clause-tells : goal.returns-clause-tells
returns-clause-tells g c = (
  c.release_held.new.outlet,
  c.in_ok-release_held.ensures.all,
  c.in_ok-release_waiting.ensures.all,
)

pub returns-clause-flushes : goal.returns-clause-flushes
returns-clause-flushes g c =
    let stores = c.in_ok-barrier.ensures.stores in
    let all = c.in_ok-release_waiting.ensures.all in
    let new : RunningWorker = record c.args.self.now {
      process = c.release_waiting.new.process;
      store = c.barrier.new.self;
    } in
    flushes_queue g.D.Disk.medium g.O.Outlet.takes c.args.self.now c.barrier.new.self
    c.args.disk.now c.barrier.new.disk stores.any_moment (held_as_begun c.args.held.now)
    stores.durable
    new refl refl all.released

pub returns-in_err-barrier-clause-store : goal.returns-in_err-barrier-clause-store
returns-in_err-barrier-clause-store g c =
    let p = err_from_is_err_and c.from_residual.result c.from_residual.ensures.1 in
    let failed = c.in_err-barrier.ensures in
    rw (p.1, p.2) (failed_barrier_leaves g.D.Disk.medium c.args.self.now.store
    c.barrier.new.self c.args.disk.now c.barrier.new.disk failed.quiet
    c.in_err-barrier.field-0.0 failed.stores failed.full c.requires)

pub returns-in_err-release_held-clause-store :
    goal.returns-in_err-release_held-clause-store
returns-in_err-release_held-clause-store g c =
    let p = err_from_is_err_and c.from_residual-in_err-release_held.result
    c.from_residual-in_err-release_held.ensures.1 in
    let done = c.in_ok-barrier.ensures in
    rw (p.1, p.2) (barrier_leaves_then g.D.Disk.medium c.args.self.now.store
    c.barrier.new.self c.args.disk.now c.barrier.new.disk done.quiet tt
    done.stores done.full (Work slice.Outlet) tt)

pub returns-in_err-release_waiting-clause-store :
    goal.returns-in_err-release_waiting-clause-store
returns-in_err-release_waiting-clause-store g c =
    let p = err_from_is_err_and c.from_residual-in_err-release_waiting.result
    c.from_residual-in_err-release_waiting.ensures.1 in
    let done = c.in_ok-barrier.ensures in
    rw (p.1, p.2) (barrier_leaves_then g.D.Disk.medium c.args.self.now.store
    c.barrier.new.self c.args.disk.now c.barrier.new.disk done.quiet tt
    done.stores done.full (Work slice.Outlet) tt)

pub returns-clause-store : goal.returns-clause-store
returns-clause-store g c =
    let done = c.in_ok-barrier.ensures in
    barrier_leaves g.D.Disk.medium c.args.self.now.store
    c.barrier.new.self c.args.disk.now c.barrier.new.disk done.quiet tt done.stores
    done.full
