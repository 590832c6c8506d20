-- Sectors that are written one after another.
use Rattle.std.specs.Prelude.{◌≡◌, ◌⊎◌, ◌<◌, ◌≤◌, ◌+◌, ℕ, length, Result, OnOk, IsErr}
use Rattle.sector_disk.specs.rules.DiskImage.{DiskImage, sector_at, front_over}
use Rattle.sector_disk.specs.rules.Medium.{Medium, After, BothFollow, Follows, LeavesOnly}
use Rattle.sector_disk.specs.rules.Medium.{CallsUpTo, CountsUpTo, PerformsCalls, FailsInside, spare}
use Rattle.sector_disk.specs.rules.Medium.{IsAllSynced}
use Rattle.sector_disk.specs.rules.Calls.{rising_writes, synced_writes}
use Rattle.sector_disk.specs.declared.fault.DiskFault.{DiskFault}
use Rattle.sector_disk.specs.declared.sector.TheConstants.{SECTOR_SIZE}

-- new is old after writes of the first n of these sectors from sector `at` on, of each of which
-- some prefix was left
pub record IsTornRun (at : ℕ) (sectors : DiskImage) (n : ℕ) (old new : DiskImage) : Type 0 where
  pub count : length new ≡ length old
  pub below : (k : ℕ) → k < at → sector_at new k ≡ sector_at old k
  pub above : (k : ℕ) → at + n ≤ k → sector_at new k ≡ sector_at old k
  pub each : (j : ℕ) → j < n → (front : ℕ) × (front ≤ SECTOR_SIZE)
      × (sector_at new (at + j) ≡ front_over front (sector_at sectors j) (sector_at old (at + j)))

-- new is old after these writes, whole
pub record IsWrittenRun (at : ℕ) (sectors : DiskImage) (n : ℕ) (old new : DiskImage) : Type 0 where
  pub count : length new ≡ length old
  pub below : (k : ℕ) → k < at → sector_at new k ≡ sector_at old k
  pub above : (k : ℕ) → at + n ≤ k → sector_at new k ≡ sector_at old k
  pub each : (j : ℕ) → j < n → sector_at new (at + j) ≡ sector_at sectors j

-- reads give the first n of these sectors from sector `at` on
abbrev pub HoldsRun : Medium → ℕ → DiskImage → ℕ → Type 0
HoldsRun medium at sectors n = (image : DiskImage) → medium.shows image → (j : ℕ) → j < n
    → sector_at image (at + j) ≡ sector_at sectors j

-- these writes: whole where they answer Ok, else some prefix of each
pub record WritesRun {T : Type 0} (at : ℕ) (sectors : DiskImage) (result : Result T DiskFault)
    (old new : Medium) : Type 0 where
  pub whole : OnOk result (BothFollow (IsWrittenRun at sectors (length sectors))
      (IsTornRun at sectors (length sectors)) old new)
  pub tears : BothFollow (IsTornRun at sectors (length sectors))
      (IsTornRun at sectors (length sectors)) old new
  pub unsynced : new.unsynced ≤ old.unsynced + length sectors
  pub counts : CountsUpTo (old.unsynced + length sectors) old new
  -- one write to each, in rising order
  pub calls : PerformsCalls (rising_writes at (length sectors)) result old new
  pub counted : CallsUpTo (length sectors) old new
  -- a cut at a moment in between, too, leaves of each some prefix
  pub any_moment : LeavesOnly old new (After (IsTornRun at sectors (length sectors))
      old.crash_images)
  pub cause : IsErr result → (spare old < length sectors) ⊎ (old.faults < new.faults)
  pub which_fault : FailsInside result

-- these writes, and then a sync
pub record StoresRun {T : Type 0} (at : ℕ) (sectors : DiskImage) (result : Result T DiskFault)
    (old new : Medium) : Type 0 where
  -- a cut at any moment leaves of each of the sectors some prefix, and all others as they were
  pub any_moment : LeavesOnly old new (After (IsTornRun at sectors (length sectors))
      old.crash_images)
  -- once it has answered Ok, each cut leaves all of them
  pub stored : OnOk result (Follows (IsWrittenRun at sectors (length sectors)) old.shows
      new.crash_images)
  pub holds : OnOk result (HoldsRun new at sectors (length sectors))
  pub all_synced : OnOk result (IsAllSynced new)
  -- at no moment in between were there more unsynced writes than before and these
  pub counts : CountsUpTo (old.unsynced + length sectors) old new
  -- one write to each, in rising order, and then one sync; after an error these are begun
  pub calls : PerformsCalls (synced_writes at (length sectors)) result old new
  -- it fails only where the disk does, or where there is no room for so many writes before a sync
  pub cause : IsErr result → (spare old < length sectors) ⊎ (old.faults < new.faults)
  pub which_fault : FailsInside result
  -- one call for each of the sectors, and the sync
  pub asks : CallsUpTo (length sectors + 1) old new
