-- Steps of a succession: what was left is read, and fits.
use Rattle.std.specs.Prelude.{◌≡◌, ℕ, List, Result, Ok, Err}
use Rattle.wasi_abi.specs.rules.Configs.{Settings}
use Rattle.sector_disk.specs.declared.file.FileDisk.{FileDisk}
use Rattle.sector_disk.specs.rules.File.{file_medium}
use Rattle.sector_disk.specs.rules.Known.{KnownFiles, KnownHandles}
use Rattle.sector_disk.specs.rules.Medium.{Medium}
use Rattle.worker.specs.declared.handover.Handover.{Handover}
use Rattle.worker.specs.declared.leave_fault.LeaveFault.{LeaveFault}
use Rattle.worker.specs.rules.Successions.{ReadsLegacy}
use Rattle.command_words.specs.rules.Printers.{PrinterState, Printers}
use Rattle.command_words.specs.declared.status.Status.{Status}
use Rattle.disk_commands.specs.rules.SuccessorDisks.{HasRoomFor, SaysRoomless, SaysUnleft}
use Rattle.disk_commands.specs.rules.SuccessorDisks.{SuccessionValue, SucceedsAsLeft}

-- what was left is handed on, or it is said what doesn't fit
abbrev pub FitsOrSays : Settings → Handover → PrinterState → Result Handover Status → PrinterState
    → Type 0
FitsOrSays config left err (Ok taken) err' =
    (taken ≡ left) × HasRoomFor config left.legacy × (err' ≡ err)
FitsOrSays config left err (Err status) err' = SaysRoomless config left.legacy err status err'

-- the same of what was read, if it was
abbrev pub TakesLegacy : List ℕ → Settings → Result Handover LeaveFault → PrinterState
    → Result Handover Status → PrinterState → Type 0
TakesLegacy path config (Ok left) err result err' = FitsOrSays config left err result err'
TakesLegacy path config (Err why) err (Ok taken) err' = ⊥
TakesLegacy path config (Err why) err (Err status) err' = SaysUnleft path why err status err'

-- A disk is read, and what its worker leaves is taken over.
pub record IsTakenOver (path : List ℕ) (config : Settings) (old new : Medium)
    (err : PrinterState) (result : Result Handover Status) (err' : PrinterState) : Type 0 where
  pub left : Result Handover LeaveFault
  pub reads : ReadsLegacy left old new
  pub takes : TakesLegacy path config left err result err'

module _ {F : Type 0} (handles : KnownHandles F) (files : KnownFiles F) where
  -- An old disk that was opened is read, and the new worker succeeds the one on it.
  pub record SucceedsOpened (given : SuccessionValue) (disk disk' : FileDisk F)
      (before after : Printers) (status : Status) : Type 0 where
    pub left : Result Handover LeaveFault
    pub reads : ReadsLegacy left (file_medium disk) (file_medium disk')
    pub goes_on : SucceedsAsLeft handles files given left before after status
