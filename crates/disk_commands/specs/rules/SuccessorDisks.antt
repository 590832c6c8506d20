-- A worker that a command creates on a new disk, fresh or to succeed another one, and what is said
-- of both disks (this project's own).
use Rattle.std.specs.Prelude.{◌≡◌, ◌⊎◌, ℕ, ◌+◌, ◌*◌, ◌<◌, ◌≤◌, ◌/◌, ◌%◌, Bool, true, false}
use Rattle.std.specs.Prelude.{List, [], ◌++◌, Option, Some, None, Result, Ok, Err, IsTrue, codes}
use Rattle.std.specs.Prelude.{if◌then◌else◌, ◌==◌}
use Rattle.std.specs.Io.KnownBytes.{Appends}
use Rattle.wasi_abi.specs.rules.Configs.{Settings}
use Rattle.file_tree.specs.declared.limits.TheConstants.{UNIT_BYTES}
use Rattle.file_tree.specs.rules.Files.{used}
use Rattle.process.specs.rules.Legacies.{LegacyValue}
use Rattle.sector_disk.specs.declared.file.FileDisk.{FileDisk}
use Rattle.sector_disk.specs.declared.open_fault.OpenFault.{OpenFault}
use Rattle.sector_disk.specs.rules.File.{file_medium}
use Rattle.sector_disk.specs.rules.Known.{KnownFiles, KnownHandles}
use Rattle.sector_disk.specs.rules.Medium.{Medium}
use Rattle.sector_disk.specs.rules.Open.{IsMadeAt, IsOpenedAt, IsTakenAt, IsUnmade, IsUntaken}
use Rattle.disk_layout.specs.rules.Journal.{TakesRecords}
use Rattle.worker.specs.declared.fault.WorkFault.{WorkFault}
use Rattle.worker.specs.declared.handover.Handover.{Handover}
use Rattle.worker.specs.declared.leave_fault.LeaveFault.{LeaveFault}
use Rattle.worker.specs.declared.leave_fault.LeaveFault.TheVariants as leave
use Rattle.worker.specs.rules.Successions.{IsCreatedFrom, ReadsLegacy, SuccessionCalls}
use Rattle.worker.specs.rules.Successions.{SuccessionKeeps}
use Rattle.command_words.specs.declared.telling.Obstacle.TheVariants.{Unwritten}
use Rattle.command_words.specs.rules.Preparations.{disk_sectors}
use Rattle.command_words.specs.rules.Printers.{PrinterState, Printers, HeedsBoth, IsSaid}
use Rattle.command_words.specs.rules.Printers.{printers}
use Rattle.command_words.specs.rules.Reports.{SaysLine, obstacle_words}
use Rattle.command_words.specs.rules.Texts.{named_number}
use Rattle.command_words.specs.declared.status.Status.{Status}
use Rattle.command_words.specs.declared.status.Status.TheVariants as exit
use Rattle.disk_commands.specs.rules.Creations.{CreatesOn, HasDiskFailed, IsCreationRefused}
use Rattle.disk_commands.specs.rules.Creations.{NewDiskValue, created_line}
use Rattle.disk_commands.specs.rules.DiskStatuses.{opening_fault, status_on_disk}
use Rattle.disk_commands.specs.rules.Openings.{EndsInFile, SaysUnopened, open_words}

-- ---- what is printed

-- after which request and which line the new worker goes on
abbrev pub goes_on_line : ℕ → ℕ → List ℕ
goes_on_line requests lines = named_number (codes "goes on after request ") requests
    ++ named_number (codes ", line ") lines ++ codes "\n"

-- how many bytes of unfinished lines no worker prints, where there are any
abbrev pub dropped_line : ℕ → List ℕ
dropped_line bytes =
    if bytes == 0 then [] else named_number (codes "dropped ") bytes ++ codes " bytes\n"

-- how many sectors it has, and these lines
abbrev pub successor_text : ℕ → ℕ → ℕ → ℕ → List ℕ
successor_text sectors requests lines dropped =
    created_line sectors ++ goes_on_line requests lines ++ dropped_line dropped

-- that of what was handed over
abbrev pub handover_text : ℕ → Handover → List ℕ
handover_text sectors left =
    successor_text sectors left.legacy.requests left.legacy.lines left.dropped

-- ---- on the new disk

-- a worker that succeeds another one: the bytes of its module, its configuration, and what was
-- handed over to it
pub record Successor : Type 0 where
  pub bytes : List ℕ
  pub config : Settings
  pub left : Handover

-- a successor of these
abbrev pub successor : List ℕ → Settings → Handover → Successor
successor bytes config left = record { bytes = bytes; config = config; left = left }

-- This worker is on the disk, and goes on from what was handed over: that was printed.
pub record IsSuccessorPrinted (next : Successor) (answer : Result (Unit {0}) WorkFault)
    (disk : Medium) (out out' : Option (List ℕ)) : Type 0 where
  pub answered : answer ≡ Ok tt
  pub created : IsCreatedFrom next.bytes next.config disk
  pub told : Appends out out' (handover_text (disk_sectors next.config next.bytes) next.left)

-- the module isn't accepted, the disk has too few sectors, or its journal is too small for the
-- version that was left
abbrev pub IsSuccessorRefused : List ℕ → Settings → LegacyValue → Medium → Type 0
IsSuccessorRefused bytes config left disk = IsCreationRefused bytes config disk
    ⊎ (TakesRecords left.version config.journal → ⊥)

-- `Done`: the worker is created. `Refused`: it is refused. `IoError`: the disk failed.
-- `OutOfMemory`: there is no memory. A refused worker and out of memory leave the disk as it was.
-- `Unwritten`: a write of a printer has failed, and whether the worker was created isn't known.
-- Whatever the status, a cut at any moment leaves no worker on a disk that had none, or this one.
-- It keeps what is promised of a worker that goes on from what was handed over. The disk takes the
-- calls of a creation and no other, in their order.
pub record SucceedsOn {D : Type 0} (medium : D → Medium) (next : Successor) (old new : D)
    (before after : Printers) (status : Status) : Type 0 where
  pub answer : Result (Unit {0}) WorkFault
  pub keeps : SuccessionKeeps next.bytes next.config next.left.legacy answer (medium old)
      (medium new)
  pub calls : SuccessionCalls next.bytes next.config answer (medium old) (medium new)
  pub made : status ≡ exit.Done
      → IsSuccessorPrinted next answer (medium new) before.out.contents after.out.contents
  pub refused : status ≡ exit.Refused
      → IsSuccessorRefused next.bytes next.config next.left.legacy (medium old)
      × (new ≡ old) × (after.out ≡ before.out)
  pub failed : status ≡ exit.IoError
      → HasDiskFailed next.bytes next.config (medium old) (medium new) × (after.out ≡ before.out)
  pub starved : status ≡ exit.OutOfMemory → (new ≡ old) × (after.out ≡ before.out)
  pub unwritten : status ≡ exit.Unwritten
      → SaysLine (obstacle_words Unwritten) exit.Unwritten before.err status after.err
  pub heeded : HeedsBoth before after status
  pub known : (status ≡ exit.Done) ⊎ (status ≡ exit.Refused) ⊎ (status ≡ exit.IoError)
      ⊎ (status ≡ exit.OutOfMemory) ⊎ (status ≡ exit.Unwritten)

-- ---- what the old disk shows

-- of a worker that isn't at rest
abbrev pub restless_words : List ℕ → List ℕ
restless_words path = codes "failed N9 NotParked\n" ++ path
    ++ codes ": isn't at rest: run it without requests, and keep its lines"

-- of one that can't count a further step
abbrev pub spent_words : List ℕ → List ℕ
spent_words path = codes "failed P3 StepsSpent\n" ++ path
    ++ codes ": its steps can't be counted further: nothing can succeed it"

-- Why a worker on the disk of this path leaves nothing. What is found by a recovery is told as
-- `show` tells it.
abbrev pub SaysUnleft : List ℕ → LeaveFault → PrinterState → Status → PrinterState → Type 0
SaysUnleft path leave.NotParked old status new =
    SaysLine (restless_words path) exit.Refused old status new
SaysUnleft path leave.StepsSpent old status new =
    SaysLine (spent_words path) exit.Refused old status new
SaysUnleft path (leave.Recover why) old status new =
    IsSaid (status_on_disk (opening_fault why)) old status new

-- how many units so many bytes of files take
abbrev pub units_for : ℕ → ℕ
units_for bytes = bytes / UNIT_BYTES + (if bytes % UNIT_BYTES == 0 then 0 else 1)

-- of files that take more units than the new worker has
abbrev pub crowded_words : ℕ → List ℕ
crowded_words units = named_number (codes "failed F4 NoRoom\nits files take ") units
    ++ named_number (codes " units: --files ") units

-- of a journal that is too small for version 2
abbrev pub short_words : List ℕ
short_words = codes "failed N7 JournalTooSmall\nversion 2 takes at least 133 sectors: --journal 133"

-- A worker of this configuration has room for the files that were left, and its journal for records
-- of the version.
pub record HasRoomFor (config : Settings) (left : LegacyValue) : Type 0 where
  pub files : used left.files ≤ config.files * UNIT_BYTES
  pub records : TakesRecords left.version config.journal

-- It is said which of these it lacks, the room for files first.
abbrev pub SaysRoomless : Settings → LegacyValue → PrinterState → Status → PrinterState → Type 0
SaysRoomless config left old status new =
    ((config.files * UNIT_BYTES < used left.files)
    × SaysLine (crowded_words (units_for (used left.files))) exit.Refused old status new)
    ⊎ ((used left.files ≤ config.files * UNIT_BYTES)
    × (TakesRecords left.version config.journal → ⊥)
    × SaysLine short_words exit.Refused old status new)

-- ---- the new disk in a file, or on a device

-- a fresh worker is created on the disk, or one that goes on from what was handed over
abbrev pub BeginsOn : {D : Type 0} → (D → Medium) → NewDiskValue → Option Handover → D → D
    → Printers → Printers → Status → Type 0
BeginsOn medium new None = CreatesOn medium new.bytes new.prepared.config
BeginsOn medium new (Some left) =
    SucceedsOn medium (successor new.bytes new.prepared.config left)

module _ {F : Type 0} (handles : KnownHandles F) (files : KnownFiles F) (new : NewDiskValue)
    (left : Option Handover) (before after : Printers) (status : Status) where
  -- The disk was made in a new file at this path, of as many sectors as are needed, the worker was
  -- created on it, and it was closed. Its file is left there where the status is `Done`, and else
  -- it was to be removed. By `begun` and `told` the creation had ended so, before the path was
  -- looked at.
  pub record HasBegunInFile : Type 0 where
    pub disk : FileDisk F
    pub disk' : FileDisk F
    pub made : IsMadeAt handles files new.path new.prepared.sectors disk
    pub closed : IsTrue (files.closed disk')
    pub begun : Status
    pub told : PrinterState
    pub begins : BeginsOn file_medium new left disk disk' before (printers after.out told) begun
    pub ends : EndsInFile files new.path disk' begun told status after.err

  -- No file is made at this path, or none is left, and it is said why. Or one is made, and the
  -- worker created on it.
  abbrev pub BeginsInFile : Type 0
  BeginsInFile =
      ((why : OpenFault) × IsUnmade handles files new.path new.prepared.sectors why
      × SaysLine (open_words new.path why) exit.IoError before.err status after.err
      × (after.out ≡ before.out))
      ⊎ HasBegunInFile

  -- The disk is on the block device at this path, of as many sectors as are needed, the worker was
  -- created on it, and it was closed.
  pub record HasBegunOnDevice : Type 0 where
    pub disk : FileDisk F
    pub disk' : FileDisk F
    pub taken : IsTakenAt handles files new.path new.prepared.sectors disk
    pub closed : IsTrue (files.closed disk')
    pub begins : BeginsOn file_medium new left disk disk' before after status

  -- It is said why the path can't be taken. Or the worker is created on the device that it names.
  abbrev pub BeginsOnDevice : Type 0
  BeginsOnDevice =
      ((why : OpenFault) × IsUntaken handles files new.path new.prepared.sectors why
      × SaysLine (open_words new.path why) exit.IoError before.err status after.err
      × (after.out ≡ before.out))
      ⊎ HasBegunOnDevice

  -- on a device that is there, where that is asked for, and in a new file where not
  abbrev pub BeginsOnDisk : Bool → Type 0
  BeginsOnDisk true = BeginsOnDevice
  BeginsOnDisk false = BeginsInFile

-- ---- both disks

-- what a succession is given: the path of the old disk, whether the new disk is on a device that
-- is there, and the new disk
pub record SuccessionValue : Type 0 where
  pub from : List ℕ
  pub on_device : Bool
  pub new : NewDiskValue

-- of these
abbrev pub succession_of : List ℕ → Bool → NewDiskValue → SuccessionValue
succession_of from on_device new = record { from = from; on_device = on_device; new = new }

module _ {F : Type 0} (handles : KnownHandles F) (files : KnownFiles F) where
  -- What the old disk leaves is said to be nothing, or not to fit. Or the new worker goes on from
  -- it.
  abbrev pub SucceedsAsLeft : SuccessionValue → Result Handover LeaveFault → Printers → Printers
      → Status → Type 0
  SucceedsAsLeft given (Err why) before after status =
      SaysUnleft given.from why before.err status after.err × (after.out ≡ before.out)
  SucceedsAsLeft given (Ok left) before after status =
      (SaysRoomless given.new.prepared.config left.legacy before.err status after.err
      × (after.out ≡ before.out))
      ⊎ (HasRoomFor given.new.prepared.config left.legacy
      × BeginsOnDisk handles files given.new (Some left) before after status given.on_device)

  -- The old disk was opened at its path, only synced and read, and closed.
  pub record SucceedsFrom (given : SuccessionValue) (before after : Printers) (status : Status)
      : Type 0 where
    pub old : FileDisk F
    pub old' : FileDisk F
    pub opened : IsOpenedAt handles files given.from old
    pub closed : IsTrue (files.closed old')
    pub left : Result Handover LeaveFault
    pub reads : ReadsLegacy left (file_medium old) (file_medium old')
    pub goes_on : SucceedsAsLeft given left before after status

  -- It is said why the old disk isn't opened. Or it is, and the new worker succeeds the one on it.
  abbrev pub SucceedsDisk : SuccessionValue → Printers → Printers → Status → Type 0
  SucceedsDisk given before after status =
      (SaysUnopened handles files false given.from before.err status after.err
      × (after.out ≡ before.out))
      ⊎ SucceedsFrom given before after status
