-- A disk in a file as a command opens it, or why there is none (this project's own).
use Rattle.std.specs.Prelude.{◌≡◌, ◌≢◌, ◌<◌, ◌⊎◌, ◌++◌, List, ℕ, Bool, true, false, codes, IsTrue}
use Rattle.std.specs.IoError.{error_kind}
use Rattle.std.specs.declared.io.Error as io
use Rattle.std.specs.declared.io.ErrorKind.TheVariants.{OutOfMemory}
use Rattle.sector_disk.specs.declared.file.FileDisk.{FileDisk}
use Rattle.sector_disk.specs.declared.open_fault.OpenCause.{OpenCause}
use Rattle.sector_disk.specs.declared.open_fault.OpenCause.TheVariants as cause
use Rattle.sector_disk.specs.declared.open_fault.OpenFault.{OpenFault}
use Rattle.sector_disk.specs.declared.open_fault.OpenFault.TheVariants as opening
use Rattle.sector_disk.specs.rules.Calls.{synced_writes}
use Rattle.sector_disk.specs.rules.File.{file_medium}
use Rattle.sector_disk.specs.rules.Medium.{IsAllSynced}
use Rattle.sector_disk.specs.rules.Causes.{error_cause}
use Rattle.sector_disk.specs.rules.Known.{KnownFiles, KnownHandles}
use Rattle.sector_disk.specs.rules.Open.{IsOpenedAt, IsUnopenedAt}
use Rattle.sector_disk.specs.rules.Rewrite.{AddsNothing}
use Rattle.command_words.specs.rules.Printers.{PrinterState, Printers}
use Rattle.command_words.specs.rules.Reports.{SaysLine, obstacle_words}
use Rattle.command_words.specs.declared.telling.Obstacle.TheVariants.{Memory, Unread}
use Rattle.command_words.specs.declared.status.Status.{Status}
use Rattle.command_words.specs.declared.status.Status.TheVariants as exit

-- What the operating system says of a path, in the words of its library. What has no sectors, and
-- another file, has words of its own.
abbrev pub cause_words : OpenCause → List ℕ
cause_words cause.Folder = codes "is a directory"
cause_words cause.NoFolder = codes "not a directory"
cause_words cause.Missing = codes "no such file or directory"
cause_words cause.Forbidden = codes "permission denied"
cause_words cause.ReadOnly = codes "read-only file system"
cause_words cause.Exists = codes "file exists"
cause_words cause.NoRoom = codes "no space left on device"
cause_words cause.Quota = codes "disk quota exceeded"
cause_words cause.TooLarge = codes "file too large"
cause_words cause.LongName = codes "file name too long"
cause_words cause.Loop = codes "too many levels of symbolic links"
cause_words cause.NotEmpty = codes "directory not empty"
cause_words cause.ManyFiles = codes "too many open files"
cause_words cause.FailedDevice = codes "input/output error"
cause_words cause.NoDevice = codes "block device required"
cause_words cause.NoSectors = codes "neither a regular file nor a block device"
cause_words cause.Displaced = codes "another file is there now"
cause_words cause.Other = codes "the system failed"

-- The fault, and on a line of its own the path and what the operating system says of it, or that
-- it is locked: by another host, or by another opening of the same command or of its caller.
abbrev pub open_words : List ℕ → OpenFault → List ℕ
open_words path opening.Busy = codes "failed K5 Busy\n" ++ path
    ++ codes ": another host is using this disk, or it is open twice: end that use"
open_words path (opening.Io cause) =
    codes "failed K2 Io\n" ++ path ++ codes ": " ++ cause_words cause

-- The same of a disk that is only looked at: of one that is locked, how it can be all the same.
abbrev pub look_words : List ℕ → OpenFault → List ℕ
look_words path opening.Busy = codes "failed K5 Busy\n" ++ path
    ++ codes ": another host is using this disk: look at it with --live"
look_words path (opening.Io cause) = open_words path (opening.Io cause)

-- what is said of a path that another host has, or that the operating system refuses
abbrev pub fault_words : OpenFault → List ℕ
fault_words opening.Busy = codes "another host is using this disk"
fault_words (opening.Io cause) = cause_words cause

-- How a command ends on the disk in a new file, whose run so far has come to this status. It is
-- `Done` only where, after all was written, the file was found at its path, and left there. Else it
-- was to be removed. Where its path leads to another one, or to none, that is said.
pub record EndsInFile {F : Type 0} (files : KnownFiles F) (path : List ℕ) (disk : FileDisk F)
    (begun : Status) (old : PrinterState) (status : Status) (new : PrinterState) : Type 0 where
  pub keeps : status ≡ exit.Done → (begun ≡ exit.Done) × IsTrue (files.in_place path disk)
      × IsTrue (files.kept path) × (new ≡ old)
  pub removes : status ≢ exit.Done → IsTrue (files.removed path)
  pub displaced : begun ≡ exit.Done → status ≢ exit.Done → (why : OpenFault)
      × IsTrue (files.displaced path why)
      × SaysLine (open_words path why) exit.IoError old status new
  pub stays : begun ≢ exit.Done → (status ≡ begun) × (new ≡ old)

-- A file can't be read, for this error. Want of memory is told as that, and any other error by the
-- path and the cause.
abbrev pub SaysUnread : List ℕ → io.Error → PrinterState → Status → PrinterState → Type 0
SaysUnread path error old status new =
    ((error_kind error ≡ OutOfMemory)
    × SaysLine (obstacle_words Memory) exit.OutOfMemory old status new)
    ⊎ ((error_kind error ≢ OutOfMemory)
    × SaysLine (open_words path (opening.Io (error_cause error))) exit.IoError old status new)

-- ---- the run of a command

-- the run of a command: its printers before and after, and its exit status
pub record CommandRun : Type 0 where
  pub before : Printers
  pub after : Printers
  pub status : Status

-- of these
abbrev pub command_run : Printers → Printers → Status → CommandRun
command_run before after status = record { before = before; after = after; status = status }

-- ---- the disk of a command

-- Of a disk that was opened each sector was written back, in rising order, and then synced once.
-- Reads give what they gave.
pub record IsWrittenBack {F : Type 0} (opened disk : FileDisk F) : Type 0 where
  pub adds_nothing : AddsNothing (file_medium opened) (file_medium disk)
  pub all_synced : IsAllSynced (file_medium disk)
  pub calls : (file_medium disk).calls ≡ synced_writes 0 (file_medium disk).sectors

module _ {F : Type 0} (handles : KnownHandles F) (files : KnownFiles F) where
  -- It was opened at this path, and written back where that was asked for.
  abbrev pub IsOpenedFor : Bool → List ℕ → FileDisk F → Type 0
  IsOpenedFor true path disk =
      (opened : FileDisk F) × IsOpenedAt handles files path opened × IsWrittenBack opened disk
  IsOpenedFor false path disk = IsOpenedAt handles files path disk

  -- The disk that was opened at this path has failed while it was written back. That is said.
  pub record SaysUnrewritten (path : List ℕ) (old : PrinterState) (status : Status)
      (new : PrinterState) : Type 0 where
    pub opened : FileDisk F
    pub disk : FileDisk F
    pub at : IsOpenedAt handles files path opened
    pub fails : (file_medium opened).faults < (file_medium disk).faults
    pub closed : IsTrue (files.closed disk)
    pub says : SaysLine (obstacle_words Unread) exit.IoError old status new

  -- It is said why no disk is opened at this path to be looked at.
  abbrev pub SaysUnlooked : List ℕ → PrinterState → Status → PrinterState → Type 0
  SaysUnlooked path old status new = (why : OpenFault) × IsUnopenedAt handles files path why
      × SaysLine (look_words path why) exit.IoError old status new

  -- It is said why no disk is opened at this path, or, where it was to be written back, that this
  -- has failed. The status is `IoError`, or `Unwritten` where a write has failed.
  abbrev pub SaysUnopened : Bool → List ℕ → PrinterState → Status → PrinterState → Type 0
  SaysUnopened rewrites path old status new =
      ((why : OpenFault) × IsUnopenedAt handles files path why
      × SaysLine (open_words path why) exit.IoError old status new)
      ⊎ ((rewrites ≡ true) × SaysUnrewritten path old status new)
