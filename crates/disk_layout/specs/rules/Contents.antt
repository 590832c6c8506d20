-- Configuration and module as sectors, filled with zeros (this project's own).
use Rattle.std.specs.Prelude.{◌≡◌, ◌⊎◌, ℕ, zero, suc, ◌+◌, ◌-◌, ◌<◌, List, [], ◌∷◌, ◌++◌, length}
use Rattle.std.specs.Prelude.{take, drop, Result, OnOk, IsErr}
use Rattle.sector_disk.specs.rules.Calls.{rising_writes}
use Rattle.sector_disk.specs.rules.DiskImage.{DiskImage}
use Rattle.sector_disk.specs.rules.Medium.{Medium, After, BothFollow, LeavesOnly, CountsUpTo}
use Rattle.sector_disk.specs.rules.Medium.{CallsUpTo, PerformsCalls, FailsInside, spare}
use Rattle.sector_disk.specs.rules.Run.{IsTornRun, IsWrittenRun}
use Rattle.sector_disk.specs.declared.fault.DiskFault.{DiskFault}
use Rattle.wasi_abi.specs.rules.Layouts.{padding}
use Rattle.disk_layout.specs.rules.Places.{rounded_up}
use Rattle.disk_layout.specs.rules.Sectors.{SectorsHold}
use Rattle.sector_disk.specs.declared.sector.TheConstants.{SECTOR_SIZE}
use Rattle.disk_layout.specs.declared.geometry.TheConstants.{MODULE_PLACE}

-- at most a sector's bytes, with zeros after them up to its end
abbrev pub filled : List ℕ → List ℕ
filled bytes = bytes ++ padding (SECTOR_SIZE - length bytes)

-- so many sectors of these bytes, one after another
abbrev pub filled_sectors : ℕ → List ℕ → DiskImage
filled_sectors zero bytes = []
filled_sectors (suc n) bytes =
    filled (take SECTOR_SIZE bytes) ∷ filled_sectors n (drop SECTOR_SIZE bytes)

-- the sectors of configuration and module
abbrev pub contents_sectors : List ℕ → DiskImage
contents_sectors bytes = filled_sectors (rounded_up (length bytes)) bytes

-- once they are written after the super and the heads, the disk holds these bytes there
abbrev pub HoldsWhatIsWritten : Type 0
HoldsWhatIsWritten = (bytes : List ℕ) (old new : DiskImage)
    → IsWrittenRun MODULE_PLACE (contents_sectors bytes) (length (contents_sectors bytes)) old new
    → SectorsHold new MODULE_PLACE (rounded_up (length bytes)) bytes

-- Configuration and module are written after the super and the heads, without a sync.
pub record WritesContents (config wasm : List ℕ) (result : Result (Unit {0}) DiskFault)
    (old new : Medium) : Type 0 where
  -- a cut at any moment leaves of each of the sectors some prefix, and all others as they were
  pub any_moment : let sectors = contents_sectors (config ++ wasm) in
      LeavesOnly old new (After (IsTornRun MODULE_PLACE sectors (length sectors)) old.crash_images)
  -- once it has answered Ok, reads give all of them, and a cut leaves of each some prefix
  pub stored : let sectors = contents_sectors (config ++ wasm) in
      OnOk result (BothFollow (IsWrittenRun MODULE_PLACE sectors (length sectors))
      (IsTornRun MODULE_PLACE sectors (length sectors)) old new)
  -- after an error reads, too, give of each some prefix
  pub torn : let sectors = contents_sectors (config ++ wasm) in
      BothFollow (IsTornRun MODULE_PLACE sectors (length sectors))
      (IsTornRun MODULE_PLACE sectors (length sectors)) old new
  -- each of the writes waits for a sync, and at no moment were there more
  pub unsynced : OnOk result
      (new.unsynced ≡ old.unsynced + rounded_up (length config + length wasm))
  pub counts : CountsUpTo (old.unsynced + rounded_up (length config + length wasm)) old new
  -- they are made in rising order; after an error they are begun
  pub calls : PerformsCalls (rising_writes MODULE_PLACE (rounded_up (length config + length wasm)))
      result old new
  -- the disk has no room for so many, or it failed
  pub cause : IsErr result → (spare old < rounded_up (length config + length wasm))
      ⊎ (old.faults < new.faults)
  pub kind : FailsInside result
  pub asks : CallsUpTo (rounded_up (length config + length wasm)) old new
