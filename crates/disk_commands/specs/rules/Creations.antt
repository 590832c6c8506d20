-- A worker that is created on a disk by a command (this project's own).
use Rattle.std.specs.Prelude.{◌≡◌, ◌⊎◌, ℕ, ◌<◌, List, ◌++◌, Option, codes, Result, Ok}
use Rattle.std.specs.Fmt.{decimal}
use Rattle.std.specs.Io.KnownBytes.{Appends}
use Rattle.wasi_abi.specs.rules.Configs.{Settings}
use Rattle.machine.specs.rules.Acceptance.{HasNoAcceptedModule}
use Rattle.sector_disk.specs.rules.Medium.{Medium, spare}
use Rattle.disk_layout.specs.rules.Unsynced.{most_unsynced}
use Rattle.worker.specs.declared.fault.WorkFault.{WorkFault}
use Rattle.worker.specs.rules.DurableCreations.{CreationCalls, CreationKeeps, IsCreatedOn}
use Rattle.worker.specs.rules.DurableCreations.{places_for}
use Rattle.worker.specs.rules.DurableValues.{DurableValue}
use Rattle.command_words.specs.declared.preparing.Prepared.{Prepared}
use Rattle.command_words.specs.declared.telling.Obstacle.TheVariants.{Unwritten}
use Rattle.command_words.specs.rules.Printers.{Printers, HeedsBoth}
use Rattle.command_words.specs.rules.Reports.{SaysLine, obstacle_words}
use Rattle.command_words.specs.rules.Preparations.{disk_sectors}
use Rattle.command_words.specs.declared.status.Status.{Status}
use Rattle.command_words.specs.declared.status.Status.TheVariants as exit

-- a disk that is to be made: the path of its file or of its device, the bytes of the worker's
-- module, and what the worker is created with
pub record NewDiskValue : Type 0 where
  pub path : List ℕ
  pub bytes : List ℕ
  pub prepared : Prepared

-- a disk of these
abbrev pub new_disk : List ℕ → List ℕ → Prepared → NewDiskValue
new_disk path bytes prepared = record { path = path; bytes = bytes; prepared = prepared }

-- the line that a creation prints
abbrev pub created_line : ℕ → List ℕ
created_line sectors = codes "created " ++ decimal sectors ++ codes " sectors\n"

-- The worker of these bytes and this configuration is created on the disk, and how many sectors it
-- has was printed.
pub record IsCreatedAndPrinted (bytes : List ℕ) (config : Settings)
    (answer : Result DurableValue WorkFault) (disk : Medium) (out out' : Option (List ℕ))
    : Type 0 where
  pub worker : DurableValue
  pub answered : answer ≡ Ok worker
  pub created : IsCreatedOn bytes config worker disk
  pub told : Appends out out' (created_line (disk_sectors config bytes))

-- the module isn't accepted, or the disk has too few sectors
abbrev pub IsCreationRefused : List ℕ → Settings → Medium → Type 0
IsCreationRefused bytes config disk = HasNoAcceptedModule config.pages bytes
    ⊎ (disk.sectors < disk_sectors config bytes)

-- the disk has failed, or it surely takes too few writes between two syncs
abbrev pub HasDiskFailed : List ℕ → Settings → Medium → Medium → Type 0
HasDiskFailed bytes config old new = (spare old ≡ 0)
    ⊎ (old.room < most_unsynced (places_for config bytes)) ⊎ (old.faults < new.faults)

-- `Done`: the worker is created. `Refused`: it is refused. `IoError`: the disk failed.
-- `OutOfMemory`: there is no memory. A refused worker and out of memory leave the disk as it was.
-- `Unwritten`: a write of a printer has failed, and whether the worker was created isn't known.
-- Whatever the status, nothing that was promised of a disk without a worker is lost, and a cut at
-- any moment leaves no worker on it, or this one. The disk takes the calls of a creation and no
-- other, in their order: the super comes last. Where the output can't be written, that is told on
-- the error output.
pub record CreatesOn {D : Type 0} (medium : D → Medium) (bytes : List ℕ) (config : Settings)
    (old new : D) (before after : Printers) (status : Status) : Type 0 where
  pub answer : Result DurableValue WorkFault
  pub keeps : CreationKeeps bytes config answer (medium old) (medium new)
  pub calls : CreationCalls bytes config answer (medium old) (medium new)
  pub made : status ≡ exit.Done
      → IsCreatedAndPrinted bytes config answer (medium new) before.out.contents after.out.contents
  pub refused : status ≡ exit.Refused → IsCreationRefused bytes config (medium old) × (new ≡ old)
      × (after.out ≡ before.out)
  pub failed : status ≡ exit.IoError → HasDiskFailed bytes config (medium old) (medium new)
      × (after.out ≡ before.out)
  pub starved : status ≡ exit.OutOfMemory → (new ≡ old) × (after.out ≡ before.out)
  pub unwritten : status ≡ exit.Unwritten
      → SaysLine (obstacle_words Unwritten) exit.Unwritten before.err status after.err
  pub heeded : HeedsBoth before after status
  pub known : (status ≡ exit.Done) ⊎ (status ≡ exit.Refused) ⊎ (status ≡ exit.IoError)
      ⊎ (status ≡ exit.OutOfMemory) ⊎ (status ≡ exit.Unwritten)
