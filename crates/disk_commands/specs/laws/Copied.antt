-- A saved copy stands for the same worker as its disk (this project's own).
use Rattle.std.specs.Prelude.{◌≡◌, ◌⊎◌, ℕ, ◌≤◌, List, length, IsTrue}
use Rattle.wasm_syntax.specs.declared.module.Module.{Module}
use Rattle.wasi_abi.specs.rules.Configs.{Settings}
use Rattle.process_rules.specs.Runs.{Kept}
use Rattle.sector_disk.specs.declared.file.FileDisk.{FileDisk}
use Rattle.sector_disk.specs.rules.DiskImage.{DiskImage, zeros}
use Rattle.sector_disk.specs.rules.File.{file_medium}
use Rattle.sector_disk.specs.rules.Known.{KnownFiles, KnownHandles}
use Rattle.sector_disk.specs.rules.Medium.{LeavesOnly, Medium}
use Rattle.sector_disk.specs.rules.Open.{IsMadeAt}
use Rattle.disk_layout.specs.rules.Places.{geometry_of, total_sectors}
use Rattle.worker.specs.laws.Copies.{IsBlank, StandForTheSame, StandsFor}
use Rattle.command_words.specs.rules.Printers.{Printers}
use Rattle.command_words.specs.declared.status.Status.{Status}
use Rattle.command_words.specs.declared.status.Status.TheVariants as exit
use Rattle.disk_commands.specs.rules.Openings.{command_run}
use Rattle.disk_commands.specs.rules.SavedCopies.{SavesCopy, SavesInspected}

-- A disk shows this image, and is copied. At whatever moment the power is cut, the copy has no
-- worker, or stands for the same as the image. Once that is done, it stands for the same.
pub record CopiesWhatStands (shown : DiskImage) (copy copy' : Medium) (status : Status)
    : Type 0 where
  pub any_moment : LeavesOnly copy copy' (λ image. IsBlank image ⊎ StandForTheSame shown image)
  pub done : status ≡ exit.Done → (image : DiskImage) → copy'.crash_images image
      → StandForTheSame shown image

-- So it is copied, whichever worker the image stands for, onto a disk that began as zeros. That has
-- all sectors of the worker.
abbrev pub CopiesStandForTheSame : {D C : Type 0} → (D → Medium) → (C → Medium) → Type 0
CopiesStandForTheSame {D} {C} disks copies =
    (disk disk' : D) (copy copy' : C) (before after : Printers) (status : Status)
    → SavesCopy (disks disk) (disks disk') (copies copy) (copies copy') before after status
    → ((image : DiskImage) → (copies copy).crash_images image
    → image ≡ zeros (copies copy).sectors)
    → (shown : DiskImage) → (disks disk').shows shown
    → (m : Module) (config : Settings) (kept : List Kept) (n : ℕ)
    → (stands : StandsFor shown m config kept n)
    → total_sectors (geometry_of config (length stands.wasm)) ≤ (copies copy).sectors
    → CopiesWhatStands shown (copies copy) (copies copy') status

-- A file was made at this path, and is left there. Whichever worker the disk shows, it was copied
-- there.
pub record SavesWhatStands {D F : Type 0} (handles : KnownHandles F) (files : KnownFiles F)
    (path : List ℕ) (medium : D → Medium) (disk' : D) : Type 0 where
  pub sectors : ℕ
  pub copy : FileDisk F
  pub copy' : FileDisk F
  pub made : IsMadeAt handles files path sectors copy
  pub closed : IsTrue (files.closed copy')
  pub kept : IsTrue (files.kept path)
  pub copies : (shown : DiskImage) → (medium disk').shows shown → (m : Module) (config : Settings)
      (answers : List Kept) (n : ℕ) → StandsFor shown m config answers n
      → CopiesWhatStands shown (file_medium copy) (file_medium copy') exit.Done

-- So `wasmhost save` has done with the disk that it has opened, or with a picture of it, where it
-- answers that it is done.
abbrev pub SavedFilesStandForTheSame : {D : Type 0} → (D → Medium) → Type 0 → Type 0
SavedFilesStandForTheSame {D} medium F =
    (handles : KnownHandles F) (files : KnownFiles F) (path : List ℕ) (disk disk' : D)
    (before after : Printers)
    → SavesInspected handles files path medium disk disk' (command_run before after exit.Done)
    → SavesWhatStands handles files path medium disk'
