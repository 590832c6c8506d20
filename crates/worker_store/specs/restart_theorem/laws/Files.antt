-- Laws of lives on a disk in a file: the restart theorem for what is on the file as it is opened.
use Rattle.std.specs.Prelude.{◌≡◌, ℕ, List, []}
use Rattle.wasm_syntax.specs.declared.module.Module.{Module}
use Rattle.wasi_abi.specs.rules.Configs.{Settings}
use Rattle.sector_disk.specs.rules.DiskImage.{DiskImage, zeros}
use Rattle.sector_disk.specs.rules.File.{answers_of, file_medium, first_of}
use Rattle.sector_disk.specs.declared.file.FileDisk.{FileDisk}
use Rattle.worker_store.specs.restart_theorem.Stands.{IsBlank}
use Rattle.worker_store.specs.restart_theorem.Lives.{Inputs, Life}
use Rattle.worker_store.specs.restart_theorem.Promises.{Promise, nothing_yet, GoOn, GoesOn}
use Rattle.worker_store.specs.restart_theorem.Holds.{DiskImageHolds, IsBounded}
use Rattle.worker_store.specs.restart_theorem.Between.{IsCutOrKilled, AreLivedOn}

-- The file was just opened, and this image was on it.
pub record IsJustOpened {F : Type 0} (image : DiskImage) (disk : FileDisk F) : Type 0 where
  pub first : first_of disk ≡ image
  pub untouched : answers_of disk ≡ []

-- Who opens the file after a cut of the power finds one of the images that the cut may leave. So it
-- is a disk that the next life may find.
abbrev pub OpenedAfterCut : Type 0 → Type 0
OpenedAfterCut F = (image : DiskImage) (last found : FileDisk F)
    → (file_medium last).crash_images image → IsJustOpened image found
    → (file_medium found).sectors ≡ (file_medium last).sectors
    → IsCutOrKilled file_medium last found

-- Whatever image without a worker was on the file, lives on it go on.
abbrev pub LivesOnFilesGoOn : Type 0 → Type 0
LivesOnFilesGoOn F = (image : DiskImage) (disk : FileDisk F) → IsJustOpened image disk
    → IsBlank image → (m : Module) (config : Settings) (inputs : List Inputs) (lives : List Life)
    → AreLivedOn file_medium m config nothing_yet inputs lives disk
    → GoesOn m config inputs lives

-- Whatever image was on the file that holds all that was promised so far, lives on it go on from
-- there. It is of no later generation than as much has happened, and has all sectors of its worker.
abbrev pub PromisedLivesOnFilesGoOn : Type 0 → Type 0
PromisedLivesOnFilesGoOn F = (image : DiskImage) (disk : FileDisk F) → IsJustOpened image disk
    → (m : Module) (config : Settings) (so_far : Promise)
    → DiskImageHolds m config so_far so_far image
    → IsBounded so_far.events (file_medium disk).sectors image
    → (inputs : List Inputs) (lives : List Life)
    → AreLivedOn file_medium m config so_far inputs lives disk
    → GoOn m config so_far inputs lives

-- there is no worker among zeros, with which a file is made
abbrev pub ZerosAreBlank : Type 0
ZerosAreBlank = (sectors : ℕ) → IsBlank (zeros sectors)
