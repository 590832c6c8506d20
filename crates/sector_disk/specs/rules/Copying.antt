-- The first sectors of a disk, the original, copied onto another disk.
use Rattle.std.specs.Prelude.{◌≡◌, ◌≢◌, ◌⊎◌, ◌<◌, ◌≤◌, ◌+◌, ◌-◌, ◌++◌, ℕ, List, take, drop}
use Rattle.std.specs.Prelude.{replicate, [], ◌∷◌, Result, OnOk, IfErr}
use Rattle.sector_disk.specs.rules.DiskImage.{DiskImage, sector_at, front_over}
use Rattle.sector_disk.specs.rules.Medium.{Medium, After, BothFollow, LeavesOnly, Passes, Stays}
use Rattle.sector_disk.specs.rules.Medium.{CallsUpTo, CountsUpTo, IsAllSynced, PerformsCalls, spare}
use Rattle.sector_disk.specs.rules.Run.{IsTornRun, IsWrittenRun}
use Rattle.sector_disk.specs.rules.Calls.{rising_writes, synced_writes}
use Rattle.sector_disk.specs.declared.disk_call.DiskCall.{DiskCall}
use Rattle.sector_disk.specs.declared.disk_call.DiskCall.TheVariants.{Sync}
use Rattle.sector_disk.specs.declared.fault.DiskFault.{DiskFault}
use Rattle.sector_disk.specs.declared.fault.DiskFault.TheVariants.{Range, Memory}
use Rattle.sector_disk.specs.declared.copying.CopyFault.{CopyFault}
use Rattle.sector_disk.specs.declared.copying.CopyFault.TheVariants as copy_fault
use Rattle.sector_disk.specs.declared.sector.TheConstants.{SECTOR_SIZE}

-- a cut leaves as many sectors as the copy has, which are the first ones that the original shows
abbrev pub IsCopied : Medium → Medium → Type 0
IsCopied original copy = (shown image : DiskImage) → original.shows shown
    → copy.crash_images image → image ≡ take copy.sectors shown

-- a sector of zeros
abbrev pub sector_of_zeros : List ℕ
sector_of_zeros = replicate SECTOR_SIZE 0

-- its first sector has a front of the original's, and not all of it; zeros come behind
pub record HasFrontOnly (shown image : DiskImage) : Type 0 where
  pub front : ℕ
  pub less : front < SECTOR_SIZE
  pub is : sector_at image 0 ≡ front_over front (sector_at shown 0) sector_of_zeros

-- Where the first sector of the copy was zeros, a cut at any moment leaves a front of the
-- original's there, or the whole copy.
abbrev pub LeavesFrontOrCopy : Medium → Medium → Medium → Type 0
LeavesFrontOrCopy original old new = (shown : DiskImage) → original.shows shown
    → ((image : DiskImage) → old.crash_images image → sector_at image 0 ≡ sector_of_zeros)
    → LeavesOnly old new (λ image. HasFrontOnly shown image ⊎ (image ≡ take old.sectors shown))

-- a disk of which so many sectors at most were read, and nothing else
pub record WasOnlyRead (count : ℕ) (old new : Medium) : Type 0 where
  pub stays : Stays old new
  pub leaves : LeavesOnly old new old.crash_images
  pub unsynced : new.unsynced ≡ old.unsynced
  pub counts : CountsUpTo old.unsynced old new
  pub calls : new.calls ≡ old.calls
  pub counted : CallsUpTo count old new

-- the writes and syncs of a copy of so many sectors, the newest first
abbrev pub copying_writes : ℕ → List DiskCall
copying_writes count = synced_writes 0 1 ++ synced_writes 1 (count - 1)

-- a fault of the disk itself
abbrev pub IsOwnFault : DiskFault → Type 0
IsOwnFault fault = (fault ≢ Range) × (fault ≢ Memory)

-- when each error comes
abbrev pub FailsToCopy : Medium → Medium → Medium → Medium → CopyFault → Type 0
FailsToCopy original original_new copy copy_new copy_fault.Sizes =
    (copy.sectors ≡ 0) ⊎ (original.sectors < copy.sectors)
FailsToCopy original original_new copy copy_new (copy_fault.Original fault) =
    IsOwnFault fault × (original.faults < original_new.faults)
FailsToCopy original original_new copy copy_new (copy_fault.Copy fault) =
    IsOwnFault fault × ((spare copy < copy.sectors) ⊎ (copy.faults < copy_new.faults))

-- ---- a run of sectors

-- why a run of so many sectors wasn't copied
abbrev pub FailsInRun : ℕ → Medium → Medium → Medium → Medium → CopyFault → Type 0
FailsInRun count original original_new copy copy_new copy_fault.Sizes = ⊥
FailsInRun count original original_new copy copy_new (copy_fault.Original fault) =
    IsOwnFault fault × (original.faults < original_new.faults)
FailsInRun count original original_new copy copy_new (copy_fault.Copy fault) =
    IsOwnFault fault × ((spare copy < count) ⊎ (copy.faults < copy_new.faults))

-- So many sectors are copied, the first of them at `at`: whole where it answers Ok, else some
-- prefix of each.
pub record CopiesRun (at count : ℕ) (result : Result (Unit {0}) CopyFault)
    (original original_new old new : Medium) : Type 0 where
  pub only_read : WasOnlyRead count original original_new
  pub whole : OnOk result ((shown : DiskImage) → original_new.shows shown
      → BothFollow (IsWrittenRun at (drop at shown) count) (IsTornRun at (drop at shown) count)
      old new)
  pub tears : (shown : DiskImage) → original_new.shows shown
      → BothFollow (IsTornRun at (drop at shown) count) (IsTornRun at (drop at shown) count) old new
  pub any_moment : (shown : DiskImage) → original_new.shows shown
      → LeavesOnly old new (After (IsTornRun at (drop at shown) count) old.crash_images)
  pub passes : Passes old new (λ _. Unit {0})
  pub unsynced : new.unsynced ≤ old.unsynced + count
  pub counts : CountsUpTo (old.unsynced + count) old new
  pub calls : PerformsCalls (rising_writes at count) result old new
  pub counted : CallsUpTo count old new
  pub cause : IfErr result (FailsInRun count original original_new old new)

-- ---- a sync

-- the sync of a copy
pub record SyncsCopy (result : Result (Unit {0}) CopyFault) (old new : Medium) : Type 0 where
  pub all_synced : OnOk result (IsAllSynced new)
  pub stays : Stays old new
  pub counts : CountsUpTo old.unsynced old new
  pub calls : PerformsCalls (Sync ∷ []) result old new
  pub counted : CallsUpTo 1 old new
  pub passes : Passes old new new.crash_images
  pub cause : IfErr result (λ why. (fault : DiskFault) × (why ≡ copy_fault.Copy fault)
      × IsOwnFault fault × (old.faults < new.faults))
