-- Savepoints: what a disk image stands by, apart from the image itself, and what is on a disk at
-- one (this project's own).
use Rattle.std.specs.Prelude.{◌≡◌, ◌⊎◌, ℕ, ◌+◌, ◌≤◌, List, [], ◌++◌, length, take, Option}
use Rattle.wasm_syntax.specs.declared.module.Module.{Module}
use Rattle.wasm_syntax.specs.declared.types.FunctionType.{FunctionType}
use Rattle.wasm_rules.specs.Acceptance.{IsAccepted}
use Rattle.wasm_rules.specs.Validity.{AreFunctionTypes, module_context}
use Rattle.wasi_abi.specs.rules.Configs.{Settings, AreSettingsWithinLimits}
use Rattle.wasi_abi.specs.rules.Versions.{version_number}
use Rattle.machine.specs.rules.Offers.{offer}
use Rattle.process_rules.specs.Processes.{ProcessState}
use Rattle.process_rules.specs.Runs.{Kept, Reaches}
use Rattle.state_image.specs.rules.ProcessImage.{Saved, SavedShowsProcess, process_image}
use Rattle.sector_disk.specs.rules.DiskImage.{DiskImage}
use Rattle.sector_disk.specs.rules.Medium.{Medium}
use Rattle.disk_layout.specs.rules.Places.{Geometry, geometry_of}
use Rattle.disk_layout.specs.rules.Sectors.{HasWorker, HoldsProcessImage}
use Rattle.disk_layout.specs.rules.Journal.{Record, TakesRecords}
use Rattle.record_replay.specs.rules.Records.{Recorded}
use Rattle.journal.specs.rules.State.{JournalState}
use Rattle.journal.specs.rules.Steps.{JournalHolds, IsOn, ShowsEarlierThan}
use Rattle.worker_store.specs.restart_theorem.Stands.{ShowsNoneLater, IsNumbered, StandsFor}

-- The bytes of a module, which are accepted, and a process to which it comes on these answers, as
-- it is saved in a generation. The journal takes the longest record of its version.
pub record Savepoint (m : Module) (config : Settings) : Type 0 where
  pub wasm : List ℕ
  pub accepted : IsAccepted offer config.pages wasm m
  pub settings : AreSettingsWithinLimits config
  pub generation : ℕ
  pub saved : Saved
  pub front : List Kept
  pub steps : ℕ
  pub process : ProcessState
  pub reached : Reaches m config front steps process
  pub functions : List FunctionType
  pub function_types : AreFunctionTypes m functions
  pub table : List (Option ℕ)
  pub shown : SavedShowsProcess (module_context m functions) reached.guest.program table saved
      process
  pub room : TakesRecords saved.version config.journal

-- where things lie on a disk with this savepoint
abbrev pub places : {m : Module} {config : Settings} → Savepoint m config → Geometry
places {config = config} point = geometry_of config (length point.wasm)

-- The next savepoint is of the same bytes of the module, and of the next generation. The numbers of
-- its process are below their ends.
pub record IsNextPoint {m : Module} {config : Settings} (point next : Savepoint m config)
    : Type 0 where
  pub wasm : next.wasm ≡ point.wasm
  pub generation : next.generation ≡ point.generation + 1
  pub numbers : IsNumbered next.process

-- ---- an image

-- The savepoint is on the disk, and these are the records of its journal, which lead from its
-- process to this one. Head and records are of the version of the savepoint. The numbers of this
-- process are below their ends.
pub record IsAtSavepoint {m : Module} {config : Settings} (point : Savepoint m config)
    (records : List Record) (last : ProcessState) (disk : DiskImage) : Type 0 where
  pub worker : HasWorker config point.wasm disk
  pub holds : HoldsProcessImage (places point) disk point.generation
      (version_number point.saved.version) (process_image point.saved)
  pub in_journal : JournalHolds (places point) point.saved.version point.generation records disk
  pub recorded : Recorded point.reached.guest point.process records last
  pub numbers : IsNumbered last
  pub none_later : ShowsNoneLater (places point) disk point.generation

-- The image is at this savepoint without records, and no sector of the journal shows its
-- generation.
pub record BeginsAtPoint {m : Module} {config : Settings} (point : Savepoint m config)
    (disk : DiskImage) : Type 0 where
  pub at : IsAtSavepoint point [] point.process disk
  pub earlier : ShowsEarlierThan (places point) point.generation disk

-- The image is at this savepoint, with these records and a prefix of those after them.
pub record IsAtFront {m : Module} {config : Settings} (point : Savepoint m config)
    (records : List Record) (last : ProcessState) (pending : List Record) (disk : DiskImage)
    : Type 0 where
  pub count : ℕ
  pub within : count ≤ length pending
  pub process : ProcessState
  pub recorded : Recorded point.reached.guest last (take count pending) process
  pub at : IsAtSavepoint point (records ++ take count pending) process disk

-- it stands for a prefix of the pending records, or begins at the next savepoint
abbrev pub IsAtFrontOrNext : {m : Module} {config : Settings} → Savepoint m config
    → Savepoint m config → List Record → ProcessState → List Record → DiskImage → Type 0
IsAtFrontOrNext point next records last pending disk =
    IsAtFront point records last pending disk ⊎ BeginsAtPoint next disk

-- It stands for these answers at this step, by the generation before that of the savepoint, whose
-- numbers are below their ends.
pub record StandsBefore {m : Module} {config : Settings} (next : Savepoint m config)
    (kept : List Kept) (n : ℕ) (disk : DiskImage) : Type 0 where
  pub stands : StandsFor disk m config kept n
  pub wasm : next.wasm ≡ stands.wasm
  pub generation : next.generation ≡ stands.generation + 1
  pub numbers : IsNumbered next.process

-- ---- whatever a cut leaves

-- each image that a cut may leave has P
abbrev pub LeavesAll : Medium → (DiskImage → Type 0) → Type 0
LeavesAll disk P = (image : DiskImage) → disk.crash_images image → P image

-- Whatever a cut leaves of the disk is at this savepoint, with these records, which lead to the
-- first process. The journal holds them, and in memory those after them, which lead on to the
-- second process. Its numbers are below their ends. The records are of the savepoint's version.
pub record IsJournaled {m : Module} {config : Settings} (point : Savepoint m config)
    (journal : JournalState) (records pending : List Record) (last now : ProcessState)
    (disk : Medium) : Type 0 where
  pub version : journal.version ≡ point.saved.version
  pub generation : journal.generation ≡ point.generation
  pub at_savepoint : (image : DiskImage) → disk.crash_images image
      → IsAtSavepoint point records last image
  pub on : IsOn (places point) journal.version journal.generation journal.used journal.kept records
      pending disk.crash_images
  pub recorded : Recorded point.reached.guest last pending now
  pub numbers : IsNumbered now
