use Rattle.std.proofs.Common.{refl, inl, inr}
use Rattle.std.proofs.lemmas.Result.{err_from_is_err_and}
use Rattle.record_replay.specs.declared.slices.fault.SliceFault.TheVariants as slice
use Rattle.worker.specs.declared.fault.WorkFault.TheVariants.{Work}
use Rattle.worker.specs.declared.running_worker.RunningWorker.{RunningWorker}
use Rattle.worker.proofs.DurableLemmas.Flushing.{flush_not_stored, flushes_all, flushes_some}
use Rattle.worker.proofs.DurableLemmas.InVain.{no_memory, no_number}
use Rattle.worker.proofs.PayingLemmas.{barrier_leaves, barrier_leaves_then, failed_barrier_leaves}
use Rattle.worker.proofs.running_worker.RunningWorker.flush.Goals as goal

pub returns-in_err-barrier-clause-turn : goal.returns-in_err-barrier-clause-turn
returns-in_err-barrier-clause-turn g c =
    let p = err_from_is_err_and c.from_residual.result c.from_residual.ensures.1 in
    rw (p.1, p.2) (flush_not_stored g.D.Disk.medium g.O.Outlet.takes c.args.self.now
    c.barrier.new.self c.args.disk.now c.barrier.new.disk c.in_err-barrier.ensures.stores.any_moment
    c.in_err-barrier.field-0.0 c.args.outlet.now c.in_err-barrier.ensures.stores.cause)

pub returns-in_err-release_waiting-clause-turn : goal.returns-in_err-release_waiting-clause-turn
returns-in_err-release_waiting-clause-turn g c =
    let p = err_from_is_err_and c.from_residual-in_err-release_waiting.result
    c.from_residual-in_err-release_waiting.ensures.1 in
    let new : RunningWorker = record c.args.self.now {
      process = c.release_waiting.new.process;
      store = c.barrier.new.self;
    } in
    rw (p.1, p.2) (flushes_some g.D.Disk.medium g.O.Outlet.takes c.args.self.now
    c.barrier.new.self c.args.disk.now c.barrier.new.disk c.in_ok-barrier.ensures.stores.any_moment
    c.in_ok-barrier.ensures.stores.durable new c.args.outlet.now c.release_waiting.new.outlet refl
    refl
    c.in_err-release_waiting.ensures.some)

pub returns-clause-turn : goal.returns-clause-turn
returns-clause-turn g c =
    let new : RunningWorker = record c.args.self.now {
      process = c.release_waiting.new.process;
      store = c.barrier.new.self;
    } in
    flushes_all g.D.Disk.medium g.O.Outlet.takes c.args.self.now c.barrier.new.self
    c.args.disk.now c.barrier.new.disk c.in_ok-barrier.ensures.stores.any_moment
    c.in_ok-barrier.ensures.stores.durable new c.args.outlet.now c.release_waiting.new.outlet refl
    refl
    c.in_ok-release_waiting.ensures.all

pub returns-in_err-barrier-clause-fault : goal.returns-in_err-barrier-clause-fault
returns-in_err-barrier-clause-fault g c =
    let p = err_from_is_err_and c.from_residual.result c.from_residual.ensures.1 in
    rw (p.1, p.2) (inl (
      c.in_err-barrier.field-0.0,
      refl,
      no_memory c.args.self.now.store (g.D.Disk.medium c.args.disk.now)
          (g.D.Disk.medium c.barrier.new.disk) c.in_err-barrier.field-0.0
          c.in_err-barrier.ensures.stores.cause,
      no_number c.args.self.now.store (g.D.Disk.medium c.args.disk.now)
          (g.D.Disk.medium c.barrier.new.disk) c.in_err-barrier.field-0.0
          c.in_err-barrier.ensures.stores.cause,
      refl,
      refl,
    ))

pub returns-in_err-release_waiting-clause-fault :
    goal.returns-in_err-release_waiting-clause-fault
returns-in_err-release_waiting-clause-fault g c =
    let p = err_from_is_err_and c.from_residual-in_err-release_waiting.result
    c.from_residual-in_err-release_waiting.ensures.1 in
    rw (p.1, p.2) (inr (refl, c.in_err-release_waiting.ensures.some))

pub returns-in_err-barrier-clause-store : goal.returns-in_err-barrier-clause-store
returns-in_err-barrier-clause-store g c =
    let p = err_from_is_err_and c.from_residual.result c.from_residual.ensures.1 in
    let failed = c.in_err-barrier.ensures in
    rw (p.1, p.2) (failed_barrier_leaves g.D.Disk.medium c.args.self.now.store
    c.barrier.new.self c.args.disk.now c.barrier.new.disk failed.quiet
    c.in_err-barrier.field-0.0 failed.stores failed.full c.requires)

pub returns-in_err-release_waiting-clause-store :
    goal.returns-in_err-release_waiting-clause-store
returns-in_err-release_waiting-clause-store g c =
    let p = err_from_is_err_and c.from_residual-in_err-release_waiting.result
    c.from_residual-in_err-release_waiting.ensures.1 in
    let done = c.in_ok-barrier.ensures in
    rw (p.1, p.2) (barrier_leaves_then g.D.Disk.medium c.args.self.now.store
    c.barrier.new.self c.args.disk.now c.barrier.new.disk done.quiet tt
    done.stores done.full (Work slice.Outlet) tt)

pub returns-clause-store : goal.returns-clause-store
returns-clause-store g c =
    let done = c.in_ok-barrier.ensures in
    barrier_leaves g.D.Disk.medium c.args.self.now.store
    c.barrier.new.self c.args.disk.now c.barrier.new.disk done.quiet tt done.stores
    done.full
