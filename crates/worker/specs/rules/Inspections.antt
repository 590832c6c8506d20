-- What is told of a worker's disk that is looked into (this project's own).
use Rattle.std.specs.Prelude.{◌≡◌, ◌⊎◌, ℕ, ◌+◌, ◌-◌, ◌*◌, ◌<◌, [], ◌∷◌, length, Result, Ok, Err}
use Rattle.process.specs.rules.Values.{waiting_in}
use Rattle.sector_disk.specs.declared.disk_call.DiskCall.TheVariants.{Sync}
use Rattle.sector_disk.specs.declared.fault.DiskFault.{DiskFault}
use Rattle.sector_disk.specs.rules.DiskImage.{DiskImage}
use Rattle.sector_disk.specs.rules.Medium.{CallsUpTo, CountsUpTo, IsAllSynced, LeavesOnly}
use Rattle.sector_disk.specs.rules.Medium.{Medium, Stays}
use Rattle.disk_layout.specs.declared.geometry.Geometry.{Geometry}
use Rattle.journal.specs.rules.Filled.{sectors_filled}
use Rattle.state_image.specs.rules.ProcessImage.{process_image}
use Rattle.state_image.specs.rules.Saving.{saved_of}
use Rattle.worker.specs.declared.fault.WorkFault.TheVariants.{Disk}
use Rattle.worker.specs.declared.inspection.Inspection.{Inspection}
use Rattle.worker.specs.declared.recover_fault.RecoverFault.{RecoverFault}
use Rattle.worker.specs.declared.recover_fault.RecoverFault.TheVariants.{Worker}
use Rattle.worker.specs.rules.Recoveries.{SyncFails}
use Rattle.worker.specs.rules.ShownDisks.{HoldsWorker, ShowsFault}
use Rattle.worker.specs.rules.Questions.{TellsQuestion}

-- The sectors of the journal that no record of this generation fills, after those that some do. A
-- next barrier could write as many.
abbrev pub sectors_left : Geometry → DiskImage → ℕ → ℕ
sectors_left geometry disk g = geometry.journal_sectors - sectors_filled geometry disk g

-- What is told is what the image holds, by its newest head and by no other: configuration and
-- module, the snapshot, the process that it has saved, the records after it, and how many sectors
-- of the journal are left.
pub record IsInspected {sectors : ℕ} {disk : DiskImage} (held : HoldsWorker sectors disk)
    (told : Inspection) : Type 0 where
  pub contents : told.contents ≡ held.holds.contents
  pub generation : told.generation ≡ held.generation
  pub process_image_bytes : told.process_image_bytes ≡ length (process_image held.saved)
  pub module_is : told.process.machine.guest ≡ held.holds.module_is
  pub saved : saved_of told.process ≡ held.saved
  pub none_waits : waiting_in told.process ≡ []
  pub question : TellsQuestion told.process told.question
  pub records : told.records.items ≡ held.records
  pub journal_left :
      told.journal_left ≡ sectors_left held.holds.contents.geometry disk held.generation

-- That is told. An error says what is wrong with the image.
abbrev pub InspectsDisk : ℕ → DiskImage → Result Inspection RecoverFault → Type 0
InspectsDisk sectors disk (Ok told) = (held : HoldsWorker sectors disk) × IsInspected held told
InspectsDisk sectors disk (Err why) = ShowsFault sectors disk why

-- a fault of the disk is told only where the disk has failed since
abbrev pub BlamesDisk : Result Inspection RecoverFault → Medium → Medium → Type 0
BlamesDisk result old new =
    (fault : DiskFault) → result ≡ Err (Worker (Disk fault)) → old.faults < new.faults

-- The disk is synced once, and then it was only read. A cut leaves what it may have left
-- before. At no moment were there more unsynced writes than before.
pub record IsOnlyRead (old new : Medium) : Type 0 where
  pub all_synced : IsAllSynced new
  pub stays : Stays old new
  pub leaves : LeavesOnly old new old.crash_images
  pub counts : CountsUpTo old.unsynced old new
  pub calls : new.calls ≡ Sync ∷ old.calls
  -- no sector is read more than three times
  pub counted : CallsUpTo (3 * old.sectors + 1) old new

-- The disk couldn't be synced; or it was, and then it was only read. What it then shows is told.
abbrev pub Inspects : Result Inspection RecoverFault → Medium → Medium → Type 0
Inspects result old new =
    SyncFails {O = Unit {0}} result old new tt tt
    ⊎ (IsOnlyRead old new × BlamesDisk result old new
    × ((image : DiskImage) → new.shows image → InspectsDisk old.sectors image result))
