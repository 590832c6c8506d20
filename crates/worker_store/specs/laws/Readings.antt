-- What is read of a disk that stands for a worker is what it stands by.
use Rattle.std.specs.Prelude.{◌≡◌, ℕ, ◌≤◌, List, Option, Some, None, Result, Ok, Err}
use Rattle.wasm_syntax.specs.declared.module.Module.{Module}
use Rattle.wasi_abi.specs.rules.Configs.{Settings}
use Rattle.process_rules.specs.Processes.{ProcessState}
use Rattle.state_image.specs.rules.ProcessImage.{process_image}
use Rattle.sector_disk.specs.rules.DiskImage.{DiskImage}
use Rattle.disk_layout.specs.rules.Places.{total_sectors}
use Rattle.disk_layout.specs.rules.Journal.{Record}
use Rattle.journal.specs.rules.Steps.{JournalHolds}
use Rattle.disk_layout.specs.rules.Held.{GivesContents}
use Rattle.disk_layout.specs.laws.Reading.{IsOfTheDisk}
use Rattle.disk_layout.specs.declared.fault.LayoutFault.{LayoutFault}
use Rattle.disk_layout.specs.declared.head.Head.{Head}
use Rattle.wasi_abi.specs.rules.Versions.{version_number}
use Rattle.disk_layout.specs.declared.reading.contents.Contents.{Contents}
use Rattle.snapshot.specs.declared.fault.SnapshotFault.TheVariants.{Damaged}
use Rattle.snapshot.specs.declared.newest.Snapshot.{Snapshot}
use Rattle.snapshot.specs.rules.Heads.{FindsHead}
use Rattle.snapshot.specs.rules.Newest.{FindsNewest, ReadsProcessImage}
use Rattle.worker_store.specs.rules.Savepoints.{Savepoint, places, IsAtSavepoint}

-- Configuration and module are read, if no out of memory and no fault of the disk is in the way.
abbrev pub ReadsTheModule : Type 0
ReadsTheModule =
    (m : Module) (config : Settings) (point : Savepoint m config) (records : List Record)
    (last : ProcessState) (disk : DiskImage) (sectors : ℕ) (answer : Result Contents LayoutFault)
    → IsAtSavepoint point records last disk → total_sectors (places point) ≤ sectors
    → IsOfTheDisk answer → GivesContents sectors disk answer
    → answer ≡ Ok (record { geometry = places point; config = config; wasm = point.wasm })

-- the newest head is that of the savepoint, and of its version
abbrev pub FindsThePoint : Type 0
FindsThePoint =
    (m : Module) (config : Settings) (point : Savepoint m config) (records : List Record)
    (last : ProcessState) (disk : DiskImage) (head : Option Head)
    → IsAtSavepoint point records last disk → FindsHead disk head
    → (found : Head) × (head ≡ Some found) × (found.generation ≡ point.generation)
    × (found.version ≡ version_number point.saved.version)

-- its image is that of the saved process
abbrev pub ReadsThePoint : Type 0
ReadsThePoint =
    (m : Module) (config : Settings) (point : Savepoint m config) (records : List Record)
    (last : ProcessState) (disk : DiskImage) (head : Head) (bytes : List ℕ)
    → IsAtSavepoint point records last disk → FindsHead disk (Some head)
    → ReadsProcessImage (places point) disk head (Ok bytes) → bytes ≡ process_image point.saved

-- and it isn't damaged
abbrev pub ReadsUndamaged : Type 0
ReadsUndamaged =
    (m : Module) (config : Settings) (point : Savepoint m config) (records : List Record)
    (last : ProcessState) (disk : DiskImage) (head : Head)
    → IsAtSavepoint point records last disk → FindsHead disk (Some head)
    → ReadsProcessImage (places point) disk head (Err Damaged) → ⊥

-- the same of both at once
pub record FindsSaved {m : Module} {config : Settings} (point : Savepoint m config)
    (disk : DiskImage) : Type 0 where
  pub found : (s : Snapshot) → FindsNewest (places point) disk (Ok (Some s))
      → (s.generation ≡ point.generation) × (s.version ≡ version_number point.saved.version)
      × (s.process_image ≡ process_image point.saved)
  pub some : FindsNewest (places point) disk (Ok None) → ⊥
  pub whole : FindsNewest (places point) disk (Err Damaged) → ⊥

abbrev pub FindsNewestPoint : Type 0
FindsNewestPoint =
    (m : Module) (config : Settings) (point : Savepoint m config) (records : List Record)
    (last : ProcessState) (disk : DiskImage) → IsAtSavepoint point records last disk
    → FindsSaved point disk

-- the records of its journal, and no others, are those that it stands by
abbrev pub HoldsTheRecords : Type 0
HoldsTheRecords =
    (m : Module) (config : Settings) (point : Savepoint m config) (records others : List Record)
    (last : ProcessState) (disk : DiskImage) → IsAtSavepoint point records last disk
    → JournalHolds (places point) point.saved.version point.generation others disk
    → others ≡ records
