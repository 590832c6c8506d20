use Rattle.worker.specs.rules.LifeWords.{Batch}
use Rattle.disk_commands.proofs.BreakLemmas.{batch_breaks_off}
use Rattle.disk_commands.proofs.HearingLemmas.{slice_hears, batch_hears_up_to}
use Rattle.disk_commands.proofs.TakingLemmas.{slice_takes, batch_heeds}
use Rattle.disk_commands.proofs.LivingLemmas.{call_leads, call_fails}
use Rattle.disk_commands.proofs.on_disk.living.batch_once.Goals as goal

pub returns-in-Ok-clause-done : goal.returns-in-Ok-clause-done
returns-in-Ok-clause-done g c =
    let runs = c.in-Ok.ensures.runs c.requires in
    record {
      heard = slice_hears g.S.Source.gives g.O.Outlet.takes c.args.watched.fuel _ _ _ _ _ _
          c.in-Ok.now runs.steps.shows runs.steps.done;
      taken = slice_takes g.S.Source.gives g.O.Outlet.takes c.args.watched.fuel _ _ _ _ _ _
          c.in-Ok.now runs.steps.shows runs.steps.done;
      leads = call_leads g.D.Disk.medium g.S.Source.gives g.O.Outlet.takes
          (Batch c.args.watched.fuel c.args.most) _ _ _ _ _ _ _ _ c.in-Ok.now runs.carries;
      shows = runs.steps.shows;
      slices = runs.steps.done;
      room = runs.steps.room;
    }

pub returns-in-Err-clause-failed : goal.returns-in-Err-clause-failed
returns-in-Err-clause-failed g c =
    let runs = c.in-Err.ensures.runs c.requires in
    record {
      heard = batch_hears_up_to g.S.Source.gives g.O.Outlet.takes c.args.watched.fuel _ _ _ _
          c.args.most c.args.worker.now.process c.watched_batch.new.self.process c.in-Err.fault
          c.args.worker.now.has_failed runs.steps.shows runs.failed
          (λ e. (c.in-Err.ensures.refused e).3);
      heeded = batch_heeds g.S.Source.gives g.O.Outlet.takes c.args.watched.fuel _ _ _ _
          c.args.worker.now.process c.watched_batch.new.self.process c.in-Err.fault
          c.args.worker.now.has_failed runs.steps.shows runs.failed
          (λ e. (c.in-Err.ensures.refused e).0) (λ e. (c.in-Err.ensures.refused e).4);
      done = call_fails g.D.Disk.medium g.S.Source.gives g.O.Outlet.takes
          (Batch c.args.watched.fuel c.args.most) _ _ _ _ _ _ _ _ c.in-Err.fault runs.carries
          (record { shows = runs.steps.shows; cause = runs.steps.on_any_disk });
      broken = batch_breaks_off g.S.Source.gives g.O.Outlet.takes c.args.watched.fuel _ _ _ _
          c.args.worker.now.process c.watched_batch.new.self.process c.in-Err.fault c.args.most
          c.args.worker.now.has_failed runs.failed (λ e. (c.in-Err.ensures.refused e).0)
          (λ e. (c.in-Err.ensures.refused e).3) (λ e. (c.in-Err.ensures.refused e).4);
    }
