use Rattle.worker.specs.rules.LifeWords.{Slice}
use Rattle.disk_commands.proofs.BreakLemmas.{slice_breaks_off}
use Rattle.disk_commands.proofs.HearingLemmas.{slice_hears, slice_hears_up_to}
use Rattle.disk_commands.proofs.TakingLemmas.{slice_takes, slice_heeds}
use Rattle.disk_commands.proofs.LivingLemmas.{call_leads, call_fails}
use Rattle.disk_commands.proofs.on_disk.living.slice_once.Goals as goal

pub returns-in-Ok-clause-done : goal.returns-in-Ok-clause-done
returns-in-Ok-clause-done g c =
    let runs = c.in-Ok.ensures.runs c.requires in
    record {
      heard = slice_hears g.S.Source.gives g.O.Outlet.takes c.args.fuel _ _ _ _ _ _ c.in-Ok.now
          runs.steps.shows runs.steps.done;
      taken = slice_takes g.S.Source.gives g.O.Outlet.takes c.args.fuel _ _ _ _ _ _ c.in-Ok.now
          runs.steps.shows runs.steps.done;
      leads = call_leads g.D.Disk.medium g.S.Source.gives g.O.Outlet.takes
          (Slice c.args.fuel) _ _ _ _ _ _ _ _ c.in-Ok.now runs.carries;
      shows = runs.steps.shows;
      slices = runs.steps.done;
      room = runs.steps.room;
    }

pub returns-in-Err-clause-failed : goal.returns-in-Err-clause-failed
returns-in-Err-clause-failed g c =
    let runs = c.in-Err.ensures.runs c.requires in
    record {
      heard = slice_hears_up_to g.S.Source.gives g.O.Outlet.takes c.args.fuel _ _ _ _
          c.args.worker.now.process c.watched_slice.new.self.process c.in-Err.fault
          c.args.worker.now.has_failed runs.steps.shows runs.failed
          (λ e. (c.in-Err.ensures.refused e).3);
      heeded = slice_heeds g.S.Source.gives g.O.Outlet.takes c.args.fuel _ _ _ _
          c.args.worker.now.process c.watched_slice.new.self.process c.in-Err.fault
          c.args.worker.now.has_failed runs.steps.shows runs.failed
          (λ e. (c.in-Err.ensures.refused e).0) (λ e. (c.in-Err.ensures.refused e).4);
      done = call_fails g.D.Disk.medium g.S.Source.gives g.O.Outlet.takes
          (Slice c.args.fuel) _ _ _ _ _ _ _ _ c.in-Err.fault runs.carries
          (record { shows = runs.steps.shows; cause = runs.steps.on_any_disk });
      broken = slice_breaks_off g.S.Source.gives g.O.Outlet.takes c.args.fuel _ _ _ _
          c.args.worker.now.process c.watched_slice.new.self.process c.in-Err.fault
          c.args.worker.now.has_failed runs.failed (λ e. (c.in-Err.ensures.refused e).0)
          (λ e. (c.in-Err.ensures.refused e).3) (λ e. (c.in-Err.ensures.refused e).4);
    }
