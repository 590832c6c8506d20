-- Laws of images that begin with the same sectors, as a copy of a disk does.
use Rattle.std.specs.Prelude.{◌≡◌, ℕ, List, length, take}
use Rattle.wasm_syntax.specs.declared.module.Module.{Module}
use Rattle.wasi_abi.specs.rules.Configs.{Settings}
use Rattle.process_rules.specs.Runs.{Kept}
use Rattle.sector_disk.specs.rules.DiskImage.{DiskImage}
use Rattle.sector_disk.specs.rules.File.{file_medium}
use Rattle.sector_disk.specs.declared.file.FileDisk.{FileDisk}
use Rattle.disk_layout.specs.declared.reading.contents.Contents.{Contents}
use Rattle.disk_layout.specs.rules.Held.{IsHeld}
use Rattle.disk_layout.specs.rules.Places.{geometry_of, total_sectors}
use Rattle.worker_store.specs.restart_theorem.Stands.{StandsFor}
use Rattle.worker_store.specs.restart_theorem.Lives.{Inputs, Life}
use Rattle.worker_store.specs.restart_theorem.Promises.{Promise, GoOn}
use Rattle.worker_store.specs.restart_theorem.Holds.{HoldsPromise, IsBounded}
use Rattle.worker_store.specs.restart_theorem.Between.{AreLivedOn}
use Rattle.worker_store.specs.restart_theorem.laws.Files.{IsJustOpened}
use Rattle.worker_store.specs.laws.Savepoints.{StandsBySaved, point_of}

-- Both images stand for the same. Whatever worker one of them stands for, at whatever step, the
-- other one stands for it there, by the same snapshot.
pub record StandForTheSame (disk copy : DiskImage) : Type 0 where
  pub whatever : (m : Module) (config : Settings) (kept : List Kept) (n : ℕ)
      → (stands : StandsFor disk m config kept n) → StandsBySaved (point_of stands) kept n copy
  pub nothing_else : (m : Module) (config : Settings) (kept : List Kept) (n : ℕ)
      → (stands : StandsFor copy m config kept n) → StandsBySaved (point_of stands) kept n disk

-- their first so many sectors are the same
abbrev pub BeginAlike : ℕ → DiskImage → DiskImage → Type 0
BeginAlike sectors disk copy = take sectors copy ≡ take sectors disk

-- What an image stands for is in its first sectors, as many as the worker has. Another image that
-- begins with these stands for the same.
abbrev pub FirstSectorsDecide : Type 0
FirstSectorsDecide =
    (disk copy : DiskImage) (m : Module) (config : Settings) (kept : List Kept) (n : ℕ)
    → (stands : StandsFor disk m config kept n)
    → BeginAlike (total_sectors (geometry_of config (length stands.wasm))) disk copy
    → StandForTheSame disk copy

-- configuration and module of an image are those of the worker that it stands for
abbrev pub StandsByItsContents : Type 0
StandsByItsContents =
    (disk : DiskImage) (m : Module) (config : Settings) (kept : List Kept) (n : ℕ) (c : Contents)
    → (stands : StandsFor disk m config kept n) → IsHeld disk c
    → (c.config ≡ config) × (c.wasm ≡ stands.wasm)
    × (c.geometry ≡ geometry_of config (length stands.wasm))

-- Of two images that stand for the same each holds what the other one does of a promise,
abbrev pub TheSameIsHeld : Type 0
TheSameIsHeld =
    (m : Module) (config : Settings) (then now : Promise) (disk copy : DiskImage)
    → StandForTheSame disk copy → HoldsPromise m config then now disk
    → HoldsPromise m config then now copy

-- and they have the same bounds.
abbrev pub TheSameIsWithin : Type 0
TheSameIsWithin =
    (latest sectors : ℕ) (disk copy : DiskImage) → StandForTheSame disk copy
    → IsBounded latest sectors disk → IsBounded latest sectors copy

-- So lives go on from all that was promised on a file that was opened with such an image, in the
-- place of the disk that the image is a copy of.
abbrev pub LivesOnCopiesGoOn : Type 0 → Type 0
LivesOnCopiesGoOn F = (image copy : DiskImage) (disk : FileDisk F) → StandForTheSame image copy
    → IsJustOpened copy disk → (m : Module) (config : Settings) (so_far : Promise)
    → HoldsPromise m config so_far so_far image
    → IsBounded so_far.events (file_medium disk).sectors image
    → (inputs : List Inputs) (lives : List Life)
    → AreLivedOn file_medium m config so_far inputs lives disk
    → GoOn m config so_far inputs lives
