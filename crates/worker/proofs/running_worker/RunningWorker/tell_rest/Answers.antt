use Rattle.std.proofs.Common.{refl, sym, ◌∙◌, inl, inr}
use Rattle.std.proofs.lemmas.Result.{err_from_is_err_and}
use Rattle.worker.specs.BatchTurns.{MayTellRest}
use Rattle.worker.proofs.DurableLemmas.Freeing.{fails_held, tells_held}
use Rattle.worker.proofs.running_worker.RunningWorker.tell_rest.Goals as goal

pub returns-in_err-flush_all-clause-rest : goal.returns-in_err-flush_all-clause-rest
returns-in_err-flush_all-clause-rest g c =
    let p = err_from_is_err_and c.from_residual.result c.from_residual.ensures.1 in
    let failed = c.in_err-flush_all.ensures in
    let may : MayTellRest c.args.worked c.args.self.now = (
      c.is_refused.ensures.no c.if-is_refused.false,
      sym c.has_failed.ensures ∙ c.if-has_failed.false,
    ) in
    rw (p.1, p.2) (inr (inr (
      may,
      c.in_err-flush_all.field-0.0,
      refl,
      fails_held g.D.Disk.medium g.O.Outlet.takes c.args.self.now c.args.self.now
          c.args.queue.now.lines _ c.in_err-flush_all.field-0.0 c.flush_all.new.self
          c.args.disk.now c.flush_all.new.disk c.args.outlet.now c.flush_all.new.outlet refl (cc)
          failed.fails,
      failed.store.runs,
      failed.store.pays,
    )))

pub returns-clause-rest : goal.returns-clause-rest
returns-clause-rest g c =
    let told = c.in_ok-flush_all.ensures in
    let may : MayTellRest c.args.worked c.args.self.now = (
      c.is_refused.ensures.no c.if-is_refused.false,
      sym c.has_failed.ensures ∙ c.if-has_failed.false,
    ) in
    inr (inl (
      may,
      refl,
      told.says,
      tells_held g.D.Disk.medium g.O.Outlet.takes c.args.self.now c.args.queue.now.lines _
          c.flush_all.new.self c.args.disk.now c.flush_all.new.disk c.args.outlet.now
          c.flush_all.new.outlet (cc) told.tells told.flushes,
      told.store.runs,
      told.store.pays,
    ))
