use Rattle.std.proofs.Common.{subst, Ok, Err}
use Rattle.record_replay.specs.rules.Calls.{ports}
use Rattle.worker.specs.rules.DurableValues.{DurableValue, durable_of}
use Rattle.worker_store.specs.restart_theorem.Lives.{Slice}
use Rattle.worker.specs.rules.DurableCalls.{CallKeeps}
use Rattle.worker.specs.rules.Scenes.{scene}
use Rattle.worker.proofs.StepLemmas.{steps_done, steps_failed}
use Rattle.worker.proofs.CheckpointLemmas.{works_inside}
use Rattle.worker.proofs.DurableLemmas.Working.{slice_carries, slice_fails}
use Rattle.worker.specs.rules.DurableFailures.{SlicesOnDiskInVain}
use Rattle.worker.proofs.durable.Worker.slice_within.Goals as goal

pub work-requires-clause-none_waits : goal.work-requires-clause-none_waits
work-requires-clause-none_waits g c =
    let durable = c.self.invariant in
    durable.none_waits (works_inside c.self.view_is c.requires.works)

pub returns-in-Ok : goal.returns-in-Ok
returns-in-Ok g c =
    let running = c.self.inside.running in
    let replayed = c.self.inside.replayed in
    let new = c.work.new.self in
    record {
      steps = steps_done g.D.Disk.medium g.S.Source.gives g.O.Outlet.takes running new replayed
          c.args.self.now c.self.view_is c.self.invariant c.args.fuel c.args.disk.now
          c.work.new.disk c.args.source.now c.work.new.source c.args.outlet.now c.work.new.outlet
          c.requires.sectors c.requires.works c.in-Ok.now c.in-Ok.ensures.runs c.in-Ok.ensures.done
          c.in-Ok.ensures.abreast;
      carries = subst (λ (v : DurableValue). CallKeeps g.D.Disk.medium g.S.Source.gives
          g.O.Outlet.takes (Slice c.args.fuel)
          (scene v c.args.disk.now c.args.source.now c.args.outlet.now) (Ok c.in-Ok.now)
          (scene (durable_of new replayed) c.work.new.disk c.work.new.source c.work.new.outlet))
          c.self.view_is
          (slice_carries g.D.Disk.medium g.S.Source.gives g.O.Outlet.takes running new replayed
          c.args.fuel c.args.disk.now c.work.new.disk c.args.source.now c.work.new.source
          c.args.outlet.now c.work.new.outlet c.in-Ok.now c.in-Ok.ensures.works);
      failed = λ works. tt;
    }

pub returns-in-Err : goal.returns-in-Err
returns-in-Err g c =
    let running = c.self.inside.running in
    let replayed = c.self.inside.replayed in
    let new = c.work.new.self in
    record {
      steps = steps_failed g.D.Disk.medium g.S.Source.gives g.O.Outlet.takes running new replayed
          c.args.self.now c.self.view_is c.self.invariant c.args.fuel c.args.disk.now
          c.work.new.disk c.args.source.now c.work.new.source c.args.outlet.now c.work.new.outlet
          c.requires.sectors c.in-Err.fault c.fail.new.self c.fail.ensures c.in-Err.ensures.runs;
      carries = subst (λ (v : DurableValue). CallKeeps g.D.Disk.medium g.S.Source.gives
          g.O.Outlet.takes (Slice c.args.fuel)
          (scene v c.args.disk.now c.args.source.now c.args.outlet.now) (Err c.in-Err.fault)
          (scene (durable_of (record new { store = c.fail.new.self }) replayed) c.work.new.disk
          c.work.new.source c.work.new.outlet)) c.self.view_is
          (slice_fails g.D.Disk.medium g.S.Source.gives g.O.Outlet.takes running new replayed
          c.args.fuel c.args.disk.now c.work.new.disk c.args.source.now c.work.new.source
          c.args.outlet.now c.work.new.outlet c.fail.new.self c.in-Err.fault
          c.in-Err.ensures.failed c.in-Err.ensures.works);
      failed = λ works. subst (λ (v : DurableValue). SlicesOnDiskInVain g.S.Source.gives
          g.O.Outlet.takes v.process c.args.fuel c.in-Err.fault new.process
          (ports c.args.source.now c.args.outlet.now)
          (ports c.work.new.source c.work.new.outlet)) c.self.view_is c.in-Err.ensures.failed;
    }
