-- A record that is appended to a store, and images in their areas.
use Rattle.std.specs.Prelude.{ℕ, ◌*◌, ◌≤◌, List, [], ◌∷◌, ◌++◌, length, Some}
use Rattle.wasm_syntax.specs.declared.module.Module.{Module}
use Rattle.wasi_abi.specs.declared.answer.Answer.{Answer}
use Rattle.wasi_abi.specs.rules.Configs.{Settings}
use Rattle.process_rules.specs.Processes.{ProcessState}
use Rattle.process_rules.specs.Runs.{Runs, Moves}
use Rattle.state_image.specs.rules.ProcessImage.{Saved, process_image}
use Rattle.state_image.specs.rules.WellTyped.{IsWellTyped}
use Rattle.sector_disk.specs.declared.sector.TheConstants.{SECTOR_SIZE}
use Rattle.sector_disk.specs.rules.Medium.{Medium}
use Rattle.disk_layout.specs.rules.Places.{geometry_of}
use Rattle.disk_layout.specs.rules.Journal.{Record, record_bytes}
use Rattle.journal.specs.rules.State.{room_of}
use Rattle.journal.specs.rules.Steps.{RecordFits}
use Rattle.worker_store.specs.rules.Savepoints.{Savepoint}
use Rattle.worker_store.specs.restart_theorem.Stands.{IsNumbered}
use Rattle.worker_store.specs.declared.store.WorkerStore.{WorkerStore}
use Rattle.worker_store.specs.rules.Stores.{IsStoreOf, with_record}

-- The record of an answer that the process has taken is one more that is pending.
abbrev pub AppendStores : {D : Type 0} → (D → Medium) → Type 0
AppendStores {D} medium =
    (m : Module) (config : Settings) (point : Savepoint m config) (store : WorkerStore)
    (records pending : List Record) (last now asks next : ProcessState) (a : Answer) (n : ℕ)
    (disk : D) → (let r : Record = record { step = next.steps; answer = a } in
    IsStoreOf point store records pending last now (medium disk)
    → Runs point.reached.guest now [] n asks → Moves point.reached.guest asks (Some a) next
    → RecordFits store.journal.version r → IsNumbered next
    → length (record_bytes store.journal.version r) ≤ room_of store.geometry store.journal
    → IsStoreOf point (with_record store r) records (pending ++ r ∷ []) last next (medium disk))

-- The image of a well-typed process fits into its area, whatever the module's length: no commit of
-- it is too big.
abbrev pub ProcessImagesFitAreas : Type 0
ProcessImagesFitAreas =
    (m : Module) (config : Settings) (s : Saved) (wasm : ℕ) → IsWellTyped m config s
    → length (process_image s) ≤ SECTOR_SIZE * (geometry_of config wasm).area_sectors
