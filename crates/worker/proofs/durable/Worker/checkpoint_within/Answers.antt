use Rattle.std.proofs.Common.{◌≡◌, false, sym, ◌∙◌, ap, subst}
use Rattle.process.specs.rules.Values.{IsProcess}
use Rattle.worker.specs.rules.DurableValues.{DurableValue}
use Rattle.worker.proofs.CheckpointLemmas.{done_keeps, fault_keeps, room_for, room_after, saved_in}
use Rattle.worker.proofs.CheckpointLemmas.{cause_on_any_disk, works_inside, calls_err, calls_ok}
use Rattle.worker.specs.rules.Unsynced.{CountsInSlice}
use Rattle.worker.proofs.durable.Worker.checkpoint_within.Goals as goal

pub save-saved-requires : goal.save-saved-requires
save-saved-requires g c =
    room_for g.D.Disk.medium c.self.inside.running c.self.inside.replayed
    c.args.self.now c.self.view_is c.args.disk.now c.args.disk.now
    c.requires.sectors

pub returns-in-Err : goal.returns-in-Err
returns-in-Err g c =
    let running = c.self.inside.running in
    let disk = g.D.Disk.medium c.args.disk.now in
    let disk' = g.D.Disk.medium c.save-saved.new.disk in
    let durable = c.self.invariant in
    let shows = durable.shows (works_inside c.self.view_is c.requires.works) in
    let runs = c.in-Err.ensures.runs in
    record {
      carries = fault_keeps g.D.Disk.medium running c.self.inside.replayed
          c.args.self.now c.self.view_is c.args.disk.now c.save-saved.new.disk
          c.process_images_fit_areas.ensures shows c.save-saved.new.store
          c.in-Err.ensures.any_moment c.in-Err.ensures.asks c.in-Err.fault c.from.result
          c.from.ensures c.in-Err.ensures.on_any_disk;
      saved = tt;
      process = ap (λ (w : DurableValue). w.process) c.self.view_is;
      keeps = record {
        shows = subst (λ (w : DurableValue). w.has_failed ≡ false → IsProcess w.process)
            c.self.view_is durable.shows;
        fails = c.in-Err.ensures.fails;
        unsaved = c.in-Err.ensures.unnumbered
            ∙ ap (λ (w : DurableValue). w.store.journal.generation) c.self.view_is;
        replayed = ap (λ (w : DurableValue). w.replayed) c.self.view_is;
        room = room_after g.D.Disk.medium running c.self.inside.replayed
            c.args.self.now c.self.view_is c.args.disk.now
            c.save-saved.new.disk c.save-saved.new.store c.in-Err.ensures.stays
            c.in-Err.ensures.passes c.requires.sectors;
        asks = c.in-Err.ensures.asks;
        counts = subst (λ (w : DurableValue). CountsInSlice w.store.geometry disk disk')
            c.self.view_is runs.counts;
      };
      calls = calls_err g.D.Disk.medium running c.self.inside.replayed
          c.args.self.now c.self.view_is c.args.disk.now
          c.save-saved.new.disk c.in-Err.fault c.from.result c.in-Err.ensures.calls;
      on_any_disk = cause_on_any_disk g.D.Disk.medium running c.self.inside.replayed
          c.args.self.now c.self.view_is c.args.disk.now
          c.save-saved.new.disk c.in-Err.fault c.from.result c.from.ensures
          c.in-Err.ensures.on_any_disk;
    }

pub returns : goal.returns
returns g c =
    let running = c.self.inside.running in
    let disk = g.D.Disk.medium c.args.disk.now in
    let disk' = g.D.Disk.medium c.save-saved.new.disk in
    let durable = c.self.invariant in
    let before = works_inside c.self.view_is c.requires.works in
    let runs = c.in_default.ensures.runs in
    record {
      carries = done_keeps g.D.Disk.medium running c.self.inside.replayed
          c.args.self.now c.self.view_is c.args.disk.now c.save-saved.new.disk
          c.process_images_fit_areas.ensures (durable.shows before) c.save-saved.new.store
          c.in_default.ensures.any_moment c.in_default.ensures.asks (runs.works before)
          c.in_default.ensures.durable;
      saved = saved_in g.D.Disk.medium running c.self.inside.replayed
          c.args.self.now c.self.view_is c.args.disk.now c.save-saved.new.disk
          c.save-saved.new.store c.in_default.ensures.numbered (runs.works before ∙ sym before);
      process = ap (λ (w : DurableValue). w.process) c.self.view_is;
      keeps = record {
        shows = subst (λ (w : DurableValue). w.has_failed ≡ false → IsProcess w.process)
            c.self.view_is durable.shows;
        fails = tt;
        unsaved = tt;
        replayed = ap (λ (w : DurableValue). w.replayed) c.self.view_is;
        room = room_after g.D.Disk.medium running c.self.inside.replayed
            c.args.self.now c.self.view_is c.args.disk.now
            c.save-saved.new.disk c.save-saved.new.store
            c.in_default.ensures.stays c.in_default.ensures.passes c.requires.sectors;
        asks = c.in_default.ensures.asks;
        counts = subst (λ (w : DurableValue). CountsInSlice w.store.geometry disk disk')
            c.self.view_is runs.counts;
      };
      calls = calls_ok g.D.Disk.medium running c.self.inside.replayed
          c.args.self.now c.self.view_is c.args.disk.now
          c.save-saved.new.disk tt c.in_default.ensures.calls;
      on_any_disk = tt;
    }
