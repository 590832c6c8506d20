-- Calls of a worker that had failed before: each is refused, and changes nothing.
use Rattle.std.proofs.Common.{◌≡◌, ◌⊎◌, ◌≤◌, ℕ, true, [], inl, inr, Err, refl, arith}
use Rattle.sector_disk.specs.rules.Medium.{Medium}
use Rattle.disk_layout.specs.rules.Places.{total_sectors}
use Rattle.record_replay.specs.rules.Calls.{Giving, Taking}
use Rattle.worker_store.specs.restart_theorem.Lives.{Slice, Batch, Checkpoint, Upgrade}
use Rattle.record_replay.specs.declared.slices.now.Now.{Now}
use Rattle.record_replay.specs.declared.slices.fault.SliceFault.TheVariants as slice
use Rattle.worker.specs.declared.fault.WorkFault.TheVariants.{Work}
use Rattle.worker.specs.rules.Batches.{RunsBatch}
use Rattle.worker.specs.rules.CallCounts.{most_saving}
use Rattle.worker.specs.rules.DurableValues.{DurableValue, IsTooSmallFor}
use Rattle.worker.specs.rules.Effects.{KeepsInSaving, RunsSlice, RunsSteps, SavesWorker}
use Rattle.worker.specs.rules.Effects.{UpgradesWorker}
use Rattle.worker.specs.rules.Scenes.{scene}
use Rattle.worker.proofs.CheckpointLemmas.{failed_carries, failed_calls}
use Rattle.worker.proofs.DurableLemmas.InVain.{not_both}
use Rattle.worker.proofs.DurableLemmas.Working.{nothing_alone}
use Rattle.worker.proofs.RecoveryCallLemmas.{none_called}
use Rattle.worker.proofs.StoreTurnLemmas.{failed_slice_calls}
use Rattle.worker.proofs.TurnCounts.{counts_none}
use Rattle.worker.proofs.UpgradeLemmas.{no_upgrade_calls}

-- a worker that is refused on a disk with all its sectors had failed
pub had_failed : (w : DurableValue) (disk : Medium)
    → total_sectors w.store.geometry ≤ disk.sectors → (w.has_failed ≡ true) ⊎ IsTooSmallFor w disk
    → w.has_failed ≡ true
had_failed w disk room (inl failed) = failed
had_failed w disk room (inr small) = absurd (omega (arith, room, small))

module _ {D S O : Type 0} (medium : D → Medium) (gives : Giving S) (takes : Taking O)
    (w : DurableValue) (failed : w.has_failed ≡ true) (disk : D) (source : S) (outlet : O)
    (room : total_sectors w.store.geometry ≤ (medium disk).sectors) where
  steps_refused : (fuel : ℕ) → RunsSteps medium gives takes fuel (scene w disk source outlet)
      (Err (Work slice.Failed)) (scene w disk source outlet)
  steps_refused fuel = record {
    shows = λ works. absurd (not_both w.has_failed failed works);
    done = tt;
    abreast = tt;
    fails = failed;
    calls = failed_slice_calls Now w.store (medium disk) (Work slice.Failed);
    replayed = refl;
    on_any_disk = failed;
    room = room;
    counts = counts_none w.store.geometry (medium disk);
  }

  pub slice_refused : (fuel : ℕ) → RunsSlice medium gives takes fuel (scene w disk source outlet)
      (Err (Work slice.Failed)) (scene w disk source outlet)
  slice_refused fuel = record {
    steps = steps_refused fuel;
    carries = (
      [],
      nothing_alone gives takes source outlet,
      failed_carries w failed (medium disk) (medium disk) (Slice fuel) []
          (Err (Work slice.Failed)) w,
      tt,
    );
    failed = λ works. absurd (not_both w.has_failed failed works);
  }

  pub batch_refused : (fuel most : ℕ) → RunsBatch medium gives takes fuel most
      (scene w disk source outlet) (Err (Work slice.Failed)) (scene w disk source outlet)
  batch_refused fuel most = record {
    steps = steps_refused fuel;
    carries = (
      [],
      nothing_alone gives takes source outlet,
      failed_carries w failed (medium disk) (medium disk) (Batch fuel most) []
          (Err (Work slice.Failed)) w,
      tt,
    );
    failed = λ works. absurd (not_both w.has_failed failed works);
  }

module _ (w : DurableValue) (failed : w.has_failed ≡ true) (disk : Medium)
    (room : total_sectors w.store.geometry ≤ disk.sectors) where
  keeps : KeepsInSaving w w (Err (Work slice.Failed)) disk disk
  keeps = record {
    shows = λ works. absurd (not_both w.has_failed failed works);
    fails = failed;
    unsaved = refl;
    replayed = refl;
    room = room;
    asks = none_called (most_saving disk.sectors) disk;
    counts = counts_none w.store.geometry disk;
  }

  pub checkpoint_refused : SavesWorker w w (Err (Work slice.Failed)) disk disk
  checkpoint_refused = record {
    carries = failed_carries w failed disk disk Checkpoint [] (Err (Work slice.Failed)) w;
    saved = tt;
    process = refl;
    keeps = keeps;
    calls = failed_calls w (Work slice.Failed) disk;
    on_any_disk = failed;
  }

  pub upgrade_refused : UpgradesWorker w w (Err (Work slice.Failed)) disk disk
  upgrade_refused = record {
    carries = failed_carries w failed disk disk Upgrade [] (Err (Work slice.Failed)) w;
    ends = tt;
    done = tt;
    leaves = refl;
    keeps = keeps;
    calls = no_upgrade_calls w (Work slice.Failed) disk;
    on_any_disk = failed;
  }
