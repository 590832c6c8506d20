-- A disk in a file that a command only looks at (this project's own). It is opened, which no other
-- host has meanwhile, and closed. Or a picture of it is taken, which another host may have.
use Rattle.std.specs.Prelude.{◌≡◌, ◌⊎◌, ℕ, Bool, true, false, List, IsTrue, Ok}
use Rattle.sector_disk.specs.declared.file.FileDisk.{FileDisk}
use Rattle.sector_disk.specs.declared.memory.MemDisk.{MemDisk}
use Rattle.sector_disk.specs.rules.File.{file_medium}
use Rattle.sector_disk.specs.rules.Known.{KnownFiles, KnownHandles}
use Rattle.sector_disk.specs.rules.Medium.{Medium}
use Rattle.sector_disk.specs.rules.Memory.{memory_medium}
use Rattle.sector_disk.specs.rules.Open.{IsOpenedAt}
use Rattle.disk_commands.specs.rules.LivePictures.{IsPictureAt, SaysUnseen}
use Rattle.disk_commands.specs.rules.Openings.{CommandRun, SaysUnlooked}

module _ {F : Type 0} (handles : KnownHandles F) (files : KnownFiles F) (path : List ℕ)
    (Does : (D : Type 0) → (D → Medium) → D → D → CommandRun → Type 0) (run : CommandRun) where
  -- This was done with the disk that was opened at the path, and it was closed. Or it is said why
  -- none is opened.
  abbrev pub DoesOpened : Type 0
  DoesOpened =
      ((disk : FileDisk F) × (disk' : FileDisk F) × IsOpenedAt handles files path disk
      × IsTrue (files.closed disk') × Does (FileDisk F) file_medium disk disk' run)
      ⊎ (SaysUnlooked handles files path run.before.err run.status run.after.err
      × (run.after.out ≡ run.before.out))

  -- This was done with a picture of that disk. Or it is said why there is none.
  abbrev pub DoesPictured : Type 0
  DoesPictured =
      ((picture : MemDisk) × (picture' : MemDisk) × IsPictureAt handles files path (Ok picture)
      × Does MemDisk memory_medium picture picture' run)
      ⊎ (SaysUnseen handles files path run.before.err run.status run.after.err
      × (run.after.out ≡ run.before.out))

  -- the disk is looked at while it is live, or while nobody else has it
  abbrev pub DoesSeen : Bool → Type 0
  DoesSeen true = DoesPictured
  DoesSeen false = DoesOpened
