-- What a commit leaves of an image that stands for a worker.
use Rattle.std.specs.Prelude.{◌⊎◌, ℕ, ◌+◌, List}
use Rattle.wasm_syntax.specs.declared.module.Module.{Module}
use Rattle.wasi_abi.specs.rules.Configs.{Settings}
use Rattle.process_rules.specs.Processes.{ProcessState}
use Rattle.process_rules.specs.Runs.{Kept}
use Rattle.state_image.specs.rules.ProcessImage.{process_image}
use Rattle.sector_disk.specs.rules.DiskImage.{DiskImage}
use Rattle.disk_layout.specs.rules.Sectors.{HasWorker}
use Rattle.disk_layout.specs.rules.Journal.{Record}
use Rattle.wasi_abi.specs.rules.Versions.{version_number}
use Rattle.journal.specs.rules.Steps.{ShowsEarlierThan}
use Rattle.snapshot.specs.rules.Heads.{IsReadyForHead}
use Rattle.snapshot.specs.rules.Steps.{HasNew, Fills, Commits, Replaces}
use Rattle.worker_store.specs.restart_theorem.Stands.{IsNumbered}
use Rattle.worker_store.specs.rules.Savepoints.{Savepoint, places, IsAtSavepoint, IsNextPoint}
use Rattle.worker_store.specs.rules.Savepoints.{BeginsAtPoint, StandsBefore}

-- An image begins at a savepoint where the new head and its image are there, over a journal of
-- earlier generations.
abbrev pub NewPointBegins : Type 0
NewPointBegins =
    (m : Module) (config : Settings) (point : Savepoint m config) (disk : DiskImage)
    → IsNumbered point.process → HasWorker config point.wasm disk
    → HasNew (places point) point.generation (version_number point.saved.version)
    (process_image point.saved) disk
    → ShowsEarlierThan (places point) point.generation disk
    → BeginsAtPoint point disk

-- a disk that stands for a worker is ready for the head of the next generation
abbrev pub PointIsReady : Type 0
PointIsReady =
    (m : Module) (config : Settings) (point : Savepoint m config) (records : List Record)
    (last : ProcessState) (disk : DiskImage) → IsAtSavepoint point records last disk
    → IsReadyForHead (point.generation + 1) disk

-- while the area of the next generation is filled, it stands for the same
abbrev pub FillingKeepsPoint : Type 0
FillingKeepsPoint =
    (m : Module) (config : Settings) (point : Savepoint m config) (records : List Record)
    (last : ProcessState) (old new : DiskImage) → IsAtSavepoint point records last old
    → Fills (places point) (point.generation + 1) old new
    → IsAtSavepoint point records last new

-- whatever a commit of another savepoint has left, it is at the one or at the other
abbrev pub CommitLeavesOneOfTwo : Type 0
CommitLeavesOneOfTwo =
    (m : Module) (config : Settings) (point next : Savepoint m config) (records : List Record)
    (last : ProcessState) (old new : DiskImage) → IsAtSavepoint point records last old
    → IsNextPoint point next
    → Commits (places point) next.generation (version_number next.saved.version)
    (process_image next.saved) old new
    → IsAtSavepoint point records last new ⊎ BeginsAtPoint next new

-- once it has replaced the old one, it is at the new one
abbrev pub CommitBeginsNext : Type 0
CommitBeginsNext =
    (m : Module) (config : Settings) (point next : Savepoint m config) (records : List Record)
    (last : ProcessState) (old new : DiskImage) → IsAtSavepoint point records last old
    → IsNextPoint point next
    → Replaces (places point) next.generation (version_number next.saved.version)
    (process_image next.saved) old new
    → BeginsAtPoint next new

-- ---- whatever it stands by

-- Until the savepoint is there, it stands for the same.
abbrev pub FillingKeepsWorker : Type 0
FillingKeepsWorker =
    (m : Module) (config : Settings) (next : Savepoint m config) (kept : List Kept) (n : ℕ)
    (old new : DiskImage) → StandsBefore next kept n old
    → Fills (places next) next.generation old new → StandsBefore next kept n new

abbrev pub CommitKeepsWorker : Type 0
CommitKeepsWorker =
    (m : Module) (config : Settings) (next : Savepoint m config) (kept : List Kept) (n : ℕ)
    (old new : DiskImage) → StandsBefore next kept n old
    → Commits (places next) next.generation (version_number next.saved.version)
    (process_image next.saved) old new
    → StandsBefore next kept n new ⊎ BeginsAtPoint next new

abbrev pub ReplacingBegins : Type 0
ReplacingBegins =
    (m : Module) (config : Settings) (next : Savepoint m config) (kept : List Kept) (n : ℕ)
    (old new : DiskImage) → StandsBefore next kept n old
    → Replaces (places next) next.generation (version_number next.saved.version)
    (process_image next.saved) old new
    → BeginsAtPoint next new
