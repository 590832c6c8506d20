use Rattle.std.proofs.Common.{◌≡◌, ◌≤◌, false, sym, ◌∙◌, ap, subst, refl, Err}
use Rattle.process.specs.rules.Values.{IsProcess}
use Rattle.disk_layout.specs.rules.Places.{total_sectors}
use Rattle.worker_store.specs.declared.store.WorkerStore.{WorkerStore}
use Rattle.worker.specs.declared.fault.WorkFault.TheVariants.{Upgrade}
use Rattle.worker.specs.declared.running_worker.RunningWorker.{RunningWorker}
use Rattle.worker.specs.rules.CallCounts.{most_saving}
use Rattle.worker.specs.rules.DurableValues.{DurableValue}
use Rattle.worker.specs.rules.Unsynced.{CountsInSlice}
use Rattle.worker.proofs.CheckpointLemmas.{room_for, room_after, works_inside}
use Rattle.worker.proofs.MigrationLemmas.{nothing_migrates}
use Rattle.worker.proofs.RecoveryCallLemmas.{none_called}
use Rattle.worker.proofs.TurnCounts.{counts_none}
use Rattle.worker.proofs.UpgradeLemmas.{no_upgrade_calls}
use Rattle.worker.proofs.UpgradeTestLemmas.{is_said, nothing_is, refusal_cause}
use Rattle.worker.proofs.UpgradeViews.{refused_carries, migrates_so, ends_so, done_carries}
use Rattle.worker.proofs.UpgradeViews.{fault_carries, leaves_so, upgraded_so, calls_err_so}
use Rattle.worker.proofs.UpgradeViews.{calls_ok_so, cause_so}
use Rattle.worker.proofs.durable.Worker.upgrade_within.Goals as goal

-- ---- it has failed before

pub returns-in-Err-clause-upgrades : goal.returns-in-Err-clause-upgrades
returns-in-Err-clause-upgrades g c =
    let running = c.self.inside.running in
    let after : RunningWorker = record running { store = c.fail.new.self } in
    let replayed = c.self.inside.replayed in
    let w = c.args.self.now in
    let disk = g.D.Disk.medium c.args.disk.now in
    let durable = c.self.invariant in
    let shows = durable.shows (works_inside c.self.view_is c.requires.works) in
    record {
      carries = refused_carries g.D.Disk.medium running after replayed w c.self.view_is
          c.args.disk.now c.args.disk.now shows c.in-Err.fault
          c.in-Err.ensures.refused c.process_images_fit_areas.ensures refl;
      ends = tt;
      done = tt;
      leaves = ap (λ (v : DurableValue). v.process) c.self.view_is;
      keeps = record {
        shows = subst (λ (v : DurableValue). v.has_failed ≡ false → IsProcess v.process)
            c.self.view_is durable.shows;
        fails = ap (λ (t : WorkerStore). t.journal.has_failed) c.fail.ensures;
        unsaved = ap (λ (t : WorkerStore). t.journal.generation) c.fail.ensures
            ∙ ap (λ (v : DurableValue). v.store.journal.generation) c.self.view_is;
        replayed = ap (λ (v : DurableValue). v.replayed) c.self.view_is;
        room = subst (λ (t : WorkerStore). total_sectors t.geometry ≤ disk.sectors)
            (sym c.fail.ensures)
            (room_for g.D.Disk.medium running replayed w c.self.view_is c.args.disk.now
            c.args.disk.now c.requires.sectors);
        asks = none_called (most_saving disk.sectors) disk;
        counts = counts_none w.store.geometry disk;
      };
      calls = no_upgrade_calls w (Upgrade c.in-Err.fault) disk;
      on_any_disk = refusal_cause running w replayed c.self.view_is c.in-Err.fault
          c.in-Err.ensures.refused disk disk;
    }

pub returns-in-Err-clause-migrates : goal.returns-in-Err-clause-migrates
returns-in-Err-clause-migrates g c =
    nothing_migrates g.D.Disk.medium c.args.self.now c.args.disk.now

pub returns-in-Err-clause-in_the_way : goal.returns-in-Err-clause-in_the_way
returns-in-Err-clause-in_the_way g c =
    λ why works is. (
      ap (λ fault. Err (Upgrade fault)) (is_said c.self.inside.running c.args.self.now
          c.self.inside.replayed c.self.view_is c.in-Err.fault c.in-Err.ensures.refused why is),
      ap (λ (w : DurableValue). w.process) c.self.view_is,
      refl,
    )

-- ---- its store

pub save_in_two-saved-requires : goal.save_in_two-saved-requires
save_in_two-saved-requires g c =
    room_for g.D.Disk.medium c.self.inside.running c.self.inside.replayed c.args.self.now
    c.self.view_is c.args.disk.now c.args.disk.now c.requires.sectors

-- ---- it fails

pub returns-in-Err-saved-clause-upgrades : goal.returns-in-Err-saved-clause-upgrades
returns-in-Err-saved-clause-upgrades g c =
    let running = c.self.inside.running in
    let failed = c.fail-in-Err-saved.new.self in
    let after : RunningWorker = record running {
      store = failed;
      process = c.save_in_two-saved.new.process;
    } in
    let replayed = c.self.inside.replayed in
    let w = c.args.self.now in
    let disk = g.D.Disk.medium c.args.disk.now in
    let disk' = g.D.Disk.medium c.save_in_two-saved.new.disk in
    let durable = c.self.invariant in
    let before = works_inside c.self.view_is c.requires.works in
    let saved = c.in-Err-saved.ensures in
    let runs = c.in-Err-saved.ensures.runs in
    record {
      carries = fault_carries g.D.Disk.medium running after replayed w c.self.view_is
          c.args.disk.now c.save_in_two-saved.new.disk (durable.shows before)
          c.process_images_fit_areas.ensures c.in_default.ensures.may saved.any_moment saved.asks
          c.in-Err-saved.fault c.from.result c.from.ensures saved.on_any_disk saved.after_fault;
      ends = tt;
      done = tt;
      leaves = leaves_so running replayed w c.self.view_is disk disk'
          c.save_in_two-saved.new.process c.in-Err-saved.fault c.from.result c.from.ensures before
          saved.on_any_disk saved.after_fault;
      keeps = record {
        shows = subst (λ (v : DurableValue). v.has_failed ≡ false → IsProcess v.process)
            c.self.view_is durable.shows;
        fails = ap (λ (t : WorkerStore). t.journal.has_failed) c.fail-in-Err-saved.ensures;
        unsaved = ap (λ (t : WorkerStore). t.journal.generation) c.fail-in-Err-saved.ensures
            ∙ saved.unnumbered
            ∙ ap (λ (v : DurableValue). v.store.journal.generation) c.self.view_is;
        replayed = ap (λ (v : DurableValue). v.replayed) c.self.view_is;
        room = room_after g.D.Disk.medium running replayed w c.self.view_is c.args.disk.now
            c.save_in_two-saved.new.disk failed
            (ap (λ (t : WorkerStore). t.geometry) c.fail-in-Err-saved.ensures ∙ saved.stays)
            saved.passes c.requires.sectors;
        asks = saved.asks;
        counts = subst (λ (v : DurableValue). CountsInSlice v.store.geometry disk disk')
            c.self.view_is runs.counts;
      };
      calls = calls_err_so running replayed w c.self.view_is disk disk' c.in-Err-saved.fault
          c.from.result saved.calls;
      on_any_disk = cause_so running replayed w c.self.view_is disk disk' c.in-Err-saved.fault
          c.from.result c.from.ensures saved.on_any_disk;
    }

pub returns-in-Err-saved-clause-migrates : goal.returns-in-Err-saved-clause-migrates
returns-in-Err-saved-clause-migrates g c =
    let durable = c.self.invariant in
    migrates_so g.D.Disk.medium c.self.inside.running
    (record c.self.inside.running {
      store = c.fail-in-Err-saved.new.self;
      process = c.save_in_two-saved.new.process;
    }) c.self.inside.replayed c.args.self.now c.self.view_is
    c.args.disk.now c.save_in_two-saved.new.disk
    (durable.shows (works_inside c.self.view_is c.requires.works))
    c.process_images_fit_areas.ensures c.in_default.ensures.may c.in-Err-saved.ensures.bars

pub returns-in-Err-saved-clause-in_the_way : goal.returns-in-Err-saved-clause-in_the_way
returns-in-Err-saved-clause-in_the_way g c =
    λ why works is. absurd (nothing_is c.self.inside.running c.args.self.now
    c.self.inside.replayed c.self.view_is c.in_default.ensures.may why is)

-- ---- it is done

pub returns-clause-upgrades : goal.returns-clause-upgrades
returns-clause-upgrades g c =
    let running = c.self.inside.running in
    let after : RunningWorker = record running {
      store = c.save_in_two-saved.new.store;
      process = c.save_in_two-saved.new.process;
    } in
    let replayed = c.self.inside.replayed in
    let w = c.args.self.now in
    let disk = g.D.Disk.medium c.args.disk.now in
    let disk' = g.D.Disk.medium c.save_in_two-saved.new.disk in
    let durable = c.self.invariant in
    let before = works_inside c.self.view_is c.requires.works in
    let saved = c.in_default-saved.ensures in
    let runs = c.in_default-saved.ensures.runs in
    record {
      carries = done_carries g.D.Disk.medium running after replayed w c.self.view_is
          c.args.disk.now c.save_in_two-saved.new.disk (durable.shows before)
          c.process_images_fit_areas.ensures c.in_default.ensures.may saved.any_moment saved.asks
          saved.done (runs.works before) refl saved.durable;
      ends = ends_so g.D.Disk.medium running after replayed w c.self.view_is
          c.args.disk.now c.save_in_two-saved.new.disk (durable.shows before)
          c.process_images_fit_areas.ensures c.in_default.ensures.may saved.durable saved.done;
      done = upgraded_so running after replayed w c.self.view_is saved.done refl saved.numbered
          (runs.works before ∙ sym before);
      leaves = tt;
      keeps = record {
        shows = subst (λ (v : DurableValue). v.has_failed ≡ false → IsProcess v.process)
            c.self.view_is durable.shows;
        fails = tt;
        unsaved = tt;
        replayed = ap (λ (v : DurableValue). v.replayed) c.self.view_is;
        room = room_after g.D.Disk.medium running replayed w c.self.view_is c.args.disk.now
            c.save_in_two-saved.new.disk c.save_in_two-saved.new.store saved.stays saved.passes
            c.requires.sectors;
        asks = saved.asks;
        counts = subst (λ (v : DurableValue). CountsInSlice v.store.geometry disk disk')
            c.self.view_is runs.counts;
      };
      calls = calls_ok_so running replayed w c.self.view_is disk disk' tt saved.calls;
      on_any_disk = tt;
    }

pub returns-clause-migrates : goal.returns-clause-migrates
returns-clause-migrates g c =
    let durable = c.self.invariant in
    migrates_so g.D.Disk.medium c.self.inside.running
    (record c.self.inside.running {
      store = c.save_in_two-saved.new.store;
      process = c.save_in_two-saved.new.process;
    }) c.self.inside.replayed c.args.self.now c.self.view_is
    c.args.disk.now c.save_in_two-saved.new.disk
    (durable.shows (works_inside c.self.view_is c.requires.works))
    c.process_images_fit_areas.ensures c.in_default.ensures.may c.in_default-saved.ensures.bars

pub returns-clause-in_the_way : goal.returns-clause-in_the_way
returns-clause-in_the_way g c =
    λ why works is. absurd (nothing_is c.self.inside.running c.args.self.now
    c.self.inside.replayed c.self.view_is c.in_default.ensures.may why is)
