-- What is read of a disk that is at a savepoint (this project's own). Want of memory and a fault of
-- the disk may come in the place of what is there, and nothing else.
use Rattle.std.specs.Prelude.{◌≡◌, ℕ, ◌≤◌, List, Vec, Result, Ok, Err}
use Rattle.std.specs.declared.alloc.Global.{Global}
use Rattle.wasm_syntax.specs.declared.module.Module.{Module}
use Rattle.wasi_abi.specs.declared.version.Version.{Version}
use Rattle.wasi_abi.specs.rules.Configs.{Settings}
use Rattle.process_rules.specs.Processes.{ProcessState}
use Rattle.state_image.specs.rules.ProcessImage.{process_image}
use Rattle.sector_disk.specs.rules.DiskImage.{DiskImage}
use Rattle.disk_layout.specs.declared.geometry.Geometry.{Geometry}
use Rattle.disk_layout.specs.declared.reading.contents.Contents.{Contents}
use Rattle.disk_layout.specs.rules.Journal.{Record}
use Rattle.disk_layout.specs.declared.fault.LayoutFault.TheVariants as layout
use Rattle.disk_layout.specs.rules.Places.{total_sectors}
use Rattle.journal.specs.declared.fault.JournalFault.TheVariants as journal
use Rattle.snapshot.specs.declared.fault.SnapshotFault.TheVariants as snapshot
use Rattle.worker_store.specs.restart_theorem.Stands.{IsBlank}
use Rattle.worker_store.specs.rules.Savepoints.{Savepoint, places, IsAtSavepoint}
use Rattle.worker_store.specs.declared.newest.NewestProcessImage.{NewestProcessImage}
use Rattle.worker_store.specs.declared.read_fault.ReadFault.{ReadFault}
use Rattle.worker_store.specs.declared.read_fault.ReadFault.TheVariants as read

-- an error that says nothing of what is on the disk: a layer wants memory, or the disk fails
abbrev pub ReadsNothing : ReadFault → Type 0
ReadsNothing (read.Disk fault) = Unit {0}
ReadsNothing (read.Layout layout.Memory) = Unit {0}
ReadsNothing (read.Snapshot snapshot.Memory) = Unit {0}
ReadsNothing (read.Journal journal.Memory) = Unit {0}
ReadsNothing other = ⊥

-- an answer that has P, or such an error
abbrev pub GivesOr : {T : Type 0} → (T → Type 0) → Result T ReadFault → Type 0
GivesOr P (Ok found) = P found
GivesOr P (Err why) = ReadsNothing why

-- configuration and module
abbrev pub ReadsContents : ℕ → DiskImage → Result Contents ReadFault → Type 0
ReadsContents sectors disk result =
    (m : Module) (config : Settings) (point : Savepoint m config) (records : List Record)
    (last : ProcessState) → IsAtSavepoint point records last disk
    → total_sectors (places point) ≤ sectors
    → GivesOr (λ found. found
    ≡ record { geometry = places point; config = config; wasm = point.wasm }) result

-- that there is no worker
abbrev pub DeniesWorker : {T : Type 0} → Result T ReadFault → Type 0
DeniesWorker (Err (read.Layout layout.NotAWorker)) = Unit {0}
DeniesWorker other = ⊥

-- that, or the layout wants memory, or the disk fails
abbrev pub DeniesWorkerOr : {T : Type 0} → Result T ReadFault → Type 0
DeniesWorkerOr (Err (read.Layout layout.NotAWorker)) = Unit {0}
DeniesWorkerOr (Err (read.Layout layout.Memory)) = Unit {0}
DeniesWorkerOr (Err (read.Disk fault)) = Unit {0}
DeniesWorkerOr other = ⊥

-- A worker is denied only where a mark of one is missing, and always there.
pub record TellsMarks (disk : DiskImage) (result : Result Contents ReadFault) : Type 0 where
  pub only : DeniesWorker result → IsBlank disk
  pub always : IsBlank disk → DeniesWorkerOr result

-- the image, of the version of the savepoint
abbrev pub ReadsNewest : Geometry → DiskImage → Result NewestProcessImage ReadFault → Type 0
ReadsNewest geometry disk result =
    (m : Module) (config : Settings) (point : Savepoint m config) (records : List Record)
    (last : ProcessState) → IsAtSavepoint point records last disk → geometry ≡ places point
    → GivesOr (λ found. (found.generation ≡ point.generation)
    × (found.version ≡ point.saved.version) × (found.process_image
    ≡ process_image point.saved)) result

-- the records
abbrev pub ReadsRecords : Geometry → Version → ℕ → DiskImage → Result (Vec Record Global) ReadFault
    → Type 0
ReadsRecords geometry version generation disk result =
    (m : Module) (config : Settings) (point : Savepoint m config) (records : List Record)
    (last : ProcessState) → IsAtSavepoint point records last disk → geometry ≡ places point
    → version ≡ point.saved.version → generation ≡ point.generation
    → GivesOr (λ found. found.items ≡ records) result
