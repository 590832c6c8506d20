-- A picture of a disk in a file that another host may have, or why there is none (this project's
-- own).
use Rattle.std.specs.Prelude.{◌⊎◌, ℕ, ◌++◌, List, codes, min, IsTrue, Result, Err}
use Rattle.sector_disk.specs.declared.fault.DiskFault.{DiskFault}
use Rattle.sector_disk.specs.declared.fault.DiskFault.TheVariants.{Memory as NoMemory}
use Rattle.sector_disk.specs.declared.file.FileDisk.{FileDisk}
use Rattle.sector_disk.specs.declared.memory.MemDisk.{MemDisk}
use Rattle.sector_disk.specs.declared.open_fault.OpenFault.{OpenFault}
use Rattle.sector_disk.specs.declared.picture.PictureFault.{PictureFault}
use Rattle.sector_disk.specs.declared.picture.PictureFault.TheVariants.{Changed, Disk}
use Rattle.sector_disk.specs.rules.File.{answers_of, file_medium}
use Rattle.sector_disk.specs.rules.Known.{KnownFiles, KnownHandles}
use Rattle.sector_disk.specs.rules.Open.{IsSeenAt, IsUnseenAt}
use Rattle.sector_disk.specs.rules.Pictures.{IsPictured}
use Rattle.disk_layout.specs.declared.geometry.TheConstants.{MODULE_PLACE}
use Rattle.command_words.specs.declared.telling.Obstacle.{Obstacle}
use Rattle.command_words.specs.declared.telling.Obstacle.TheVariants.{Memory, Unread}
use Rattle.command_words.specs.rules.Printers.{PrinterState}
use Rattle.command_words.specs.rules.Reports.{SaysLine, obstacle_status, obstacle_words}
use Rattle.command_words.specs.declared.status.Status.{Status}
use Rattle.command_words.specs.declared.status.Status.TheVariants as exit
use Rattle.disk_commands.specs.declared.on_disk.live.TheConstants.{MOST_SECTORS}
use Rattle.disk_commands.specs.rules.Openings.{open_words}

-- the super or a head had changed when it was read again
abbrev pub changed_words : List ℕ → List ℕ
changed_words path =
    codes "failed K5 Busy\n" ++ path ++ codes ": its worker has just saved itself, look again"

-- there is no memory for a disk's sectors, or they can't be read
abbrev pub obstacle_of : DiskFault → Obstacle
obstacle_of NoMemory = Memory
obstacle_of other = Unread

-- It is said why there is no picture: with status `IoError` that the disk has changed or has
-- failed, and with `OutOfMemory` that there is no memory. The status is `Unwritten` where a write
-- of that has failed.
abbrev pub SaysUnpictured : List ℕ → PictureFault → PrinterState → Status → PrinterState → Type 0
SaysUnpictured path Changed old status new =
    SaysLine (changed_words path) exit.IoError old status new
SaysUnpictured path (Disk why) old status new =
    SaysLine (obstacle_words (obstacle_of why)) (obstacle_status (obstacle_of why)) old status new

module _ {F : Type 0} (handles : KnownHandles F) (files : KnownFiles F) (path : List ℕ) where
  -- The disk in the file at this path was opened to read it and nothing else, without its lock. All
  -- its sectors were read, or as many as the largest disk of a worker has, and then those before
  -- the module once more: the super and both heads. It had no other call, and was closed. This has
  -- come of it.
  pub record IsPictureAt (result : Result MemDisk PictureFault) : Type 0 where
    pub disk : FileDisk F
    pub disk' : FileDisk F
    pub seen : IsSeenAt handles files path disk
    pub pictured : IsPictured (min MOST_SECTORS (file_medium disk).sectors) MODULE_PLACE result
        (answers_of disk) (answers_of disk')
    pub closed : IsTrue (files.closed disk')

  -- It is said why there is none: no file is opened at this path, or no picture is had of its disk.
  abbrev pub SaysUnseen : PrinterState → Status → PrinterState → Type 0
  SaysUnseen old status new =
      ((why : OpenFault) × IsUnseenAt handles files path why
      × SaysLine (open_words path why) exit.IoError old status new)
      ⊎ ((why : PictureFault) × IsPictureAt (Err why) × SaysUnpictured path why old status new)
