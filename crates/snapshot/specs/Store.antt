-- A sector that is stored, and one that is written behind a sync (this project's own).
use Rattle.std.specs.Prelude.{◌≡◌, ◌⊎◌, ℕ, ◌+◌, ◌<◌, ◌≤◌, max, List, length, Result, OnOk, IsErr}
use Rattle.sector_disk.specs.rules.DiskImage.{DiskImage, IsTorn, IsWritten}
use Rattle.sector_disk.specs.rules.Medium.{Medium, After, Follows, BothFollow, LeavesOnly}
use Rattle.sector_disk.specs.rules.Medium.{CallsUpTo, CountsUpTo, PerformsCalls, IsAllSynced}
use Rattle.sector_disk.specs.rules.Medium.{Holds, spare}
use Rattle.sector_disk.specs.declared.disk_call.DiskCall.{DiskCall}
use Rattle.sector_disk.specs.declared.fault.DiskFault.{DiskFault}
use Rattle.snapshot.specs.rules.Calls.{PerformsStores}
use Rattle.snapshot.specs.declared.writing.Writing.{Writing}
use Rattle.snapshot.specs.declared.writing.Writing.TheVariants.{Whole, Changes}

-- Written whole it is written always. Where only changes are written, a sector of which reads
-- gave these bytes is not.
abbrev pub IsStoredAs : {T : Type 0} → Writing → ℕ → List ℕ → Result T DiskFault → Medium
    → Medium → Type 0
IsStoredAs Whole k bytes result old new = OnOk result (new.unsynced ≡ old.unsynced + 1)
IsStoredAs Changes k bytes result old new =
    (image : DiskImage) → new.shows image → Holds old k bytes → CountsUpTo old.unsynced old new

-- Sector k has these bytes afterwards. Where it is written, a cut may leave some prefix of it.
pub record StoresSector {T : Type 0} (k : ℕ) (bytes : List ℕ) (writing : Writing)
    (result : Result T DiskFault) (old new : Medium) : Type 0 where
  pub whole : OnOk result (BothFollow (IsWritten k bytes) (IsTorn k bytes) old new)
  pub any_moment : LeavesOnly old new (After (IsTorn k bytes) old.crash_images)
  pub told : IsStoredAs writing k bytes result old new
  pub unsynced : new.unsynced ≤ old.unsynced + 1
  pub counts : CountsUpTo (old.unsynced + 1) old new
  pub calls : PerformsStores (record { writing = writing; first = k; count = 1 }) result old new
  -- it may be read first
  pub counted : CallsUpTo 2 old new
  pub cause : IsErr result → (spare old ≡ 0) ⊎ (old.faults < new.faults)

-- Sector k is written once all that was written before is durable. A cut leaves what it may have
-- left before, or some prefix of the sector over what reads gave. These calls are asked for.
pub record WritesDurably {T : Type 0} (k : ℕ) (bytes : List ℕ) (asked : List DiskCall)
    (result : Result T DiskFault) (old new : Medium) : Type 0 where
  pub written : OnOk result (Follows (IsWritten k bytes) old.shows new.crash_images)
  pub all_synced : OnOk result (IsAllSynced new)
  pub any_moment : LeavesOnly old new (λ image. old.crash_images image
      ⊎ After (IsTorn k bytes) old.shows image)
  -- as many unsynced writes as before, or this one
  pub counts : CountsUpTo (max old.unsynced 1) old new
  pub calls : PerformsCalls asked result old new
  pub counted : CallsUpTo (length asked) old new
  pub cause : IsErr result → (old.room ≡ 0) ⊎ (old.faults < new.faults)
