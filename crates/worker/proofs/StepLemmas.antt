-- What a slice and a batch have in common, as their contracts see it.
use Rattle.std.proofs.Common.{◌≡◌, ℕ, ◌≤◌, false, true, ap, sym, ◌∙◌, subst, Ok, Err}
use Rattle.std.specs.Prelude.{◌≢◌}
use Rattle.process.specs.rules.Values.{IsProcess}
use Rattle.sector_disk.specs.rules.Medium.{Medium}
use Rattle.disk_layout.specs.rules.Places.{total_sectors}
use Rattle.record_replay.specs.rules.Calls.{Giving, Taking, ports}
use Rattle.record_replay.specs.rules.Slices.{Slices}
use Rattle.record_replay.specs.declared.slices.now.Now.{Now}
use Rattle.record_replay.specs.declared.slices.now.Now.TheVariants.{Spent}
use Rattle.record_replay.specs.Turns.{working}
use Rattle.record_replay.proofs.Worked.{slices_of}
use Rattle.worker_store.specs.declared.store.WorkerStore.{WorkerStore}
use Rattle.worker_store.specs.rules.Stores.{failed_store}
use Rattle.worker.specs.declared.fault.WorkFault.{WorkFault}
use Rattle.worker.specs.declared.running_worker.RunningWorker.{RunningWorker}
use Rattle.worker.specs.rules.DurableValues.{DurableValue, IsDurable, durable_of, without_disk}
use Rattle.worker.specs.rules.Effects.{RunsSteps}
use Rattle.worker.specs.rules.Scenes.{scene}
use Rattle.worker.specs.rules.Unsynced.{CountsInSlice}
use Rattle.worker.specs.StoreTurns.{StoreGoes, StoreStops}
use Rattle.worker.proofs.CheckpointLemmas.{room_after, works_inside}
use Rattle.worker.proofs.StoreTurnLemmas.{calls_done, calls_in_vain, has_slice_cause}

module _ {D S O : Type 0} (medium : D → Medium) (gives : Giving S) (takes : Taking O)
    (running new : RunningWorker) (replayed : ℕ) (old : DurableValue)
    (is_old : durable_of running replayed ≡ old) (durable : IsDurable (durable_of running replayed))
    (fuel : ℕ) (disk disk' : D) (source source' : S) (outlet outlet' : O)
    (room : total_sectors old.store.geometry ≤ (medium disk).sectors) where
  shown_before : old.has_failed ≡ false → IsProcess old.process
  shown_before = subst (λ (v : DurableValue). v.has_failed ≡ false → IsProcess v.process) is_old
      durable.shows

  -- they were taken
  pub steps_done : old.has_failed ≡ false → (now : Now)
      → StoreGoes running.store new.store (medium disk) (medium disk')
      → Slices gives takes (working running.process) fuel now (working new.process)
      (ports source outlet) (ports source' outlet') → (now ≢ Spent → new.is_abreast ≡ true)
      → RunsSteps medium gives takes fuel (scene old disk source outlet) (Ok now)
      (scene (durable_of new replayed) disk' source' outlet')
  steps_done works now runs slices abreast =
      let before = works_inside is_old works in
      record {
        shows = shown_before;
        done = slices_of gives takes (working running.process) (working new.process)
            (without_disk old) (without_disk (durable_of new replayed)) fuel now
            (ports source outlet) (ports source' outlet')
            (ap (λ z. record { process = running.process; failed = z }) (sym before)
            ∙ ap without_disk is_old)
            (ap (λ z. record { process = new.process; failed = z }) (sym (runs.works before)))
            slices;
        abreast = abreast;
        fails = tt;
        calls = calls_done running replayed old is_old new.store (medium disk) (medium disk') now
            runs;
        replayed = ap (λ (v : DurableValue). v.replayed) is_old;
        on_any_disk = tt;
        room = room_after medium running replayed old is_old disk disk' new.store runs.geometry
            runs.passes room;
        counts = subst (λ (v : DurableValue). CountsInSlice v.store.geometry (medium disk)
            (medium disk')) is_old runs.counts;
      }

  -- up to an error, after which the store has failed
  pub steps_failed : (why : WorkFault) (last : WorkerStore) → last ≡ failed_store new.store
      → StoreStops running.store new.store why (medium disk) (medium disk')
      → RunsSteps medium gives takes fuel (scene old disk source outlet) (Err why)
      (scene (durable_of (record new { store = last }) replayed) disk' source' outlet')
  steps_failed why last is runs = record {
    shows = shown_before;
    done = tt;
    abreast = tt;
    fails = ap (λ (t : WorkerStore). t.journal.has_failed) is;
    calls = calls_in_vain running replayed old is_old new.store (medium disk) (medium disk') why
        runs last is;
    replayed = ap (λ (v : DurableValue). v.replayed) is_old;
    on_any_disk = has_slice_cause running replayed old is_old new.store (medium disk)
        (medium disk') why runs;
    room = room_after medium running replayed old is_old disk disk' last
        (ap (λ (t : WorkerStore). t.geometry) is ∙ runs.geometry) runs.passes room;
    counts = subst (λ (v : DurableValue). CountsInSlice v.store.geometry (medium disk)
        (medium disk')) is_old runs.counts;
  }
