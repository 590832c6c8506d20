-- Sectors that are written back as they were read.
use Rattle.std.specs.Prelude.{◌⊎◌, ◌<◌, ◌≤◌, ◌+◌, ◌*◌, ℕ, List, Result, IsErr}
use Rattle.sector_disk.specs.rules.DiskImage.{DiskImage}
use Rattle.sector_disk.specs.rules.Medium.{Medium, LeavesOnly, CountsUpTo, PerformsCalls}
use Rattle.sector_disk.specs.rules.Medium.{CallsUpTo, FailsInside, spare}
use Rattle.sector_disk.specs.declared.disk_call.DiskCall.{DiskCall}
use Rattle.sector_disk.specs.declared.fault.DiskFault.{DiskFault}

-- Reads give what they gave, and with it a cut leaves only what it could have left before. What a
-- torn sector keeps of what reads give was among that (`may_keep`).
abbrev pub AddsNothing : Medium → Medium → Type 0
AddsNothing old new = (shown image : DiskImage) → new.crash_pairs shown image
    → old.crash_pairs shown image

-- so many sectors are written back by these calls, or some of them where it answers an error
pub record WritesBack {T : Type 0} (calls : List DiskCall) (count : ℕ) (result : Result T DiskFault)
    (old new : Medium) : Type 0 where
  pub adds_nothing : AddsNothing old new
  -- at any moment, too
  pub any_moment : LeavesOnly old new old.crash_images
  pub unsynced : new.unsynced ≤ old.unsynced + count
  pub counts : CountsUpTo (old.unsynced + count) old new
  pub performed : PerformsCalls calls result old new
  -- a read and a write of each
  pub counted : CallsUpTo (2 * count) old new
  pub cause : IsErr result → (spare old < count) ⊎ (old.faults < new.faults)
  pub which_fault : FailsInside result
