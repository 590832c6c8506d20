use Rattle.std.proofs.Common.{subst, Ok, Err}
use Rattle.record_replay.specs.rules.Calls.{ports}
use Rattle.worker.specs.rules.DurableValues.{DurableValue, durable_of}
use Rattle.worker_store.specs.restart_theorem.Lives.{Batch}
use Rattle.worker.specs.rules.Batches.{BatchFails}
use Rattle.worker.specs.rules.DurableCalls.{CallKeeps}
use Rattle.worker.specs.rules.Scenes.{scene}
use Rattle.worker.specs.BatchTurns.{WorksInBatch, holding}
use Rattle.worker.proofs.StepLemmas.{steps_done, steps_failed}
use Rattle.worker.proofs.CheckpointLemmas.{works_inside}
use Rattle.worker.proofs.DurableLemmas.BatchEnds.{finishes, batch_carries, batch_fails}
use Rattle.worker.proofs.DurableLemmas.BatchEnds.{rest_abreast}
use Rattle.worker.proofs.durable.Worker.batch_within.Goals as goal

pub work_in_batch-worked-requires-clause-none_waits :
    goal.work_in_batch-worked-requires-clause-none_waits
work_in_batch-worked-requires-clause-none_waits g c =
    let durable = c.self.invariant in
    durable.none_waits (works_inside c.self.view_is c.requires.works)

pub returns-in-Ok : goal.returns-in-Ok
returns-in-Ok g c =
    let running = c.self.inside.running in
    let replayed = c.self.inside.replayed in
    let new = c.tell_rest.new.self in
    let before = works_inside c.self.view_is c.requires.works in
    let works = subst (λ n. WorksInBatch g.D.Disk.medium g.S.Source.gives g.O.Outlet.takes
    (Batch c.args.watched.fuel n) (scene running c.args.disk.now c.args.source.now
    c.args.outlet.now) c.work_in_batch-worked.result
    (scene (holding c.work_in_batch-worked.new.self c.work_in_batch-worked.new.queue.lines)
    c.work_in_batch-worked.new.disk c.work_in_batch-worked.new.source
    c.work_in_batch-worked.new.outlet)) c.new-queue.ensures.most
    c.work_in_batch-worked.ensures.works in
    let finished = finishes g.D.Disk.medium g.S.Source.gives g.O.Outlet.takes running
    c.args.watched.fuel
    c.args.most c.work_in_batch-worked.new.self new c.work_in_batch-worked.new.queue.lines
    c.work_in_batch-worked.result c.args.disk.now c.work_in_batch-worked.new.disk
    c.tell_rest.new.disk c.args.source.now c.work_in_batch-worked.new.source c.args.outlet.now
    c.work_in_batch-worked.new.outlet c.tell_rest.new.outlet before
    c.work_in_batch-worked.ensures.sectors works
    (Ok c.in-Ok.now) c.in-Ok.ensures.rest in
    record {
      steps = steps_done g.D.Disk.medium g.S.Source.gives g.O.Outlet.takes running new replayed
          c.args.self.now c.self.view_is c.self.invariant c.args.watched.fuel c.args.disk.now
          c.tell_rest.new.disk c.args.source.now c.work_in_batch-worked.new.source
          c.args.outlet.now c.tell_rest.new.outlet c.requires.sectors c.requires.works c.in-Ok.now
          finished.runs finished.done
          (rest_abreast g.D.Disk.medium g.O.Outlet.takes c.work_in_batch-worked.result
          c.work_in_batch-worked.new.self new c.work_in_batch-worked.new.queue.lines
          c.work_in_batch-worked.new.disk c.tell_rest.new.disk c.work_in_batch-worked.new.outlet
          c.tell_rest.new.outlet c.in-Ok.now c.in-Ok.ensures.rest
          c.work_in_batch-worked.ensures.abreast);
      carries = subst (λ (v : DurableValue). CallKeeps g.D.Disk.medium g.S.Source.gives
          g.O.Outlet.takes (Batch c.args.watched.fuel c.args.most)
          (scene v c.args.disk.now c.args.source.now c.args.outlet.now) (Ok c.in-Ok.now)
          (scene (durable_of new replayed) c.tell_rest.new.disk c.work_in_batch-worked.new.source
          c.tell_rest.new.outlet)) c.self.view_is
          (batch_carries g.D.Disk.medium g.S.Source.gives g.O.Outlet.takes running new replayed
          c.args.watched.fuel c.args.most c.args.disk.now c.tell_rest.new.disk c.args.source.now
          c.work_in_batch-worked.new.source c.args.outlet.now c.tell_rest.new.outlet c.in-Ok.now
          finished.over);
      failed = λ works. tt;
    }

pub returns : goal.returns
returns g c =
    let running = c.self.inside.running in
    let replayed = c.self.inside.replayed in
    let new = c.tell_rest.new.self in
    let before = works_inside c.self.view_is c.requires.works in
    let works = subst (λ n. WorksInBatch g.D.Disk.medium g.S.Source.gives g.O.Outlet.takes
    (Batch c.args.watched.fuel n) (scene running c.args.disk.now c.args.source.now
    c.args.outlet.now) c.work_in_batch-worked.result
    (scene (holding c.work_in_batch-worked.new.self c.work_in_batch-worked.new.queue.lines)
    c.work_in_batch-worked.new.disk c.work_in_batch-worked.new.source
    c.work_in_batch-worked.new.outlet)) c.new-queue.ensures.most
    c.work_in_batch-worked.ensures.works in
    let finished = finishes g.D.Disk.medium g.S.Source.gives g.O.Outlet.takes running
    c.args.watched.fuel
    c.args.most c.work_in_batch-worked.new.self new c.work_in_batch-worked.new.queue.lines
    c.work_in_batch-worked.result c.args.disk.now c.work_in_batch-worked.new.disk
    c.tell_rest.new.disk c.args.source.now c.work_in_batch-worked.new.source c.args.outlet.now
    c.work_in_batch-worked.new.outlet c.tell_rest.new.outlet before
    c.work_in_batch-worked.ensures.sectors works
    (Err c.in-Err.fault) c.in-Err.ensures.rest in
    record {
      steps = steps_failed g.D.Disk.medium g.S.Source.gives g.O.Outlet.takes running new replayed
          c.args.self.now c.self.view_is c.self.invariant c.args.watched.fuel c.args.disk.now
          c.tell_rest.new.disk c.args.source.now c.work_in_batch-worked.new.source
          c.args.outlet.now c.tell_rest.new.outlet c.requires.sectors c.in-Err.fault
          c.fail.new.self c.fail.ensures finished.runs;
      carries = subst (λ (v : DurableValue). CallKeeps g.D.Disk.medium g.S.Source.gives
          g.O.Outlet.takes (Batch c.args.watched.fuel c.args.most)
          (scene v c.args.disk.now c.args.source.now c.args.outlet.now) (Err c.in-Err.fault)
          (scene (durable_of (record new { store = c.fail.new.self }) replayed)
          c.tell_rest.new.disk c.work_in_batch-worked.new.source c.tell_rest.new.outlet))
          c.self.view_is
          (batch_fails g.D.Disk.medium g.S.Source.gives g.O.Outlet.takes running new replayed
          c.args.watched.fuel c.args.most c.args.disk.now c.tell_rest.new.disk c.args.source.now
          c.work_in_batch-worked.new.source c.args.outlet.now c.tell_rest.new.outlet
          c.fail.new.self c.in-Err.fault finished.failed finished.over);
      failed = λ works. subst (λ (v : DurableValue). BatchFails g.S.Source.gives g.O.Outlet.takes
          v.process c.args.watched.fuel c.in-Err.fault new.process
          (ports c.args.source.now c.args.outlet.now)
          (ports c.work_in_batch-worked.new.source c.tell_rest.new.outlet))
          c.self.view_is finished.failed;
    }
