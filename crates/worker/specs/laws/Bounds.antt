-- How late a generation the disk of a worker that is open may be of, and of which version.
use Rattle.std.specs.Prelude.{◌≡◌, ℕ}
use Rattle.wasm_syntax.specs.declared.module.Module.{Module}
use Rattle.wasi_abi.specs.rules.Configs.{Settings}
use Rattle.process_rules.specs.Processes.{ProcessState, Guest}
use Rattle.sector_disk.specs.rules.Medium.{Medium}
use Rattle.worker_store.specs.restart_theorem.Courses.{Stage}
use Rattle.worker_store.specs.restart_theorem.Promises.{Promise}
use Rattle.worker_store.specs.restart_theorem.Holds.{KeepsBounds, StaysWithin}
use Rattle.worker.specs.rules.DurableValues.{DurableValue}
use Rattle.worker.specs.rules.OpenWorkers.{IsOpenOn}

-- Of the disk of a worker that is open no image is of a later generation than as much has happened,
-- and each has all sectors of its worker.
abbrev pub OpenWorkersKeepBounds : {D : Type 0} → (D → Medium) → Type 0
OpenWorkersKeepBounds {D} medium =
    (m : Module) (config : Settings) (guest : Guest) (promise : Promise) (stage : Stage)
    (p : ProcessState) (w : DurableValue) (disk : D)
    → IsOpenOn m config guest promise stage p w (medium disk)
    → KeepsBounds promise.events (medium disk)

-- What stays within bounds at any moment of a call keeps them in its end.
abbrev pub StayingKeepsBounds : {D : Type 0} → (D → Medium) → Type 0
StayingKeepsBounds {D} medium =
    (latest : ℕ) (old new : D) → StaysWithin latest (medium old) (medium new)
    → KeepsBounds latest (medium new)

-- Process, journal and savepoint of an open worker are of the version of the process that it shows.
abbrev pub OpenWorkersHaveOneVersion : {D : Type 0} → (D → Medium) → Type 0
OpenWorkersHaveOneVersion {D} medium =
    (m : Module) (config : Settings) (guest : Guest) (promise : Promise) (stage : Stage)
    (p : ProcessState) (w : DurableValue) (disk : D)
    → (opened : IsOpenOn m config guest promise stage p w (medium disk))
    → (w.process.host.host.version ≡ p.host.version)
    × (w.store.journal.version ≡ p.host.version)
    × (opened.on_disk.point.saved.version ≡ p.host.version)
