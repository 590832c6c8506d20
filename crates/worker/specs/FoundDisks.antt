-- What is found on any disk, before anything is told or written.
use Rattle.std.specs.Prelude.{◌≡◌, ℕ, List, Result, Ok, Err}
use Rattle.process.specs.rules.Values.{ProcessValue}
use Rattle.state_image.specs.rules.ProcessImage.{process_image}
use Rattle.state_image.specs.rules.Restored.{IsRestored}
use Rattle.sector_disk.specs.rules.DiskImage.{DiskImage}
use Rattle.disk_layout.specs.declared.geometry.Geometry.{Geometry}
use Rattle.disk_layout.specs.declared.reading.contents.Contents.{Contents}
use Rattle.disk_layout.specs.rules.Held.{GivesContents}
use Rattle.journal.specs.rules.Steps.{JournalHolds, ShowsLater}
use Rattle.state_image.specs.rules.Saving.{saved_of}
use Rattle.worker_store.specs.rules.AnyDisk.{NamesProcessImage}
use Rattle.worker.specs.declared.found.Found.{Found}
use Rattle.worker.specs.declared.recover_fault.RecoverFault.{RecoverFault}
use Rattle.worker.specs.rules.ShownDisks.{HoldsModule, ShowsFault}

-- The process was made again of the image that the newest head names.
pub record IsRestoredIn {sectors : ℕ} {disk : DiskImage} (holds : HoldsModule sectors disk)
    (geometry : Geometry) (generation : ℕ) (process : ProcessValue) : Type 0 where
  pub placed : geometry ≡ holds.contents.geometry
  pub bytes : List ℕ
  pub newest : NamesProcessImage holds.contents.geometry disk generation
      (saved_of process).version bytes
  pub restored : IsRestored holds.module_is holds.contents.config bytes process

-- That was found, with the bytes of its image, and the records of its generation, of the version
-- of the process. The first sector of the journal shows no later generation.
pub record IsFoundIn (sectors : ℕ) (disk : DiskImage) (found : Found) : Type 0 where
  pub holds : HoldsModule sectors disk
  pub process : IsRestoredIn holds found.geometry found.generation found.process
  pub image : found.process_image ≡ process_image (saved_of found.process)
  pub none_later : ShowsLater holds.contents.geometry found.generation disk → ⊥
  pub in_journal : JournalHolds holds.contents.geometry (saved_of found.process).version
      found.generation found.records.items disk

-- that, or what is wrong with the disk
abbrev pub FindsIn : ℕ → DiskImage → Result Found RecoverFault → Type 0
FindsIn sectors disk (Ok found) = IsFoundIn sectors disk found
FindsIn sectors disk (Err why) = ShowsFault sectors disk why

-- configuration and module were read
abbrev pub FindsBehindIn : Contents → DiskImage → Result Found RecoverFault → Type 0
FindsBehindIn contents disk result =
    (sectors : ℕ) → GivesContents sectors disk (Ok contents) → FindsIn sectors disk result
