-- A worker that is recovered, and opens.
use Rattle.std.specs.Prelude.{◌≡◌, ◌⊎◌, List, [], length}
use Rattle.wasm_syntax.specs.declared.module.Module.{Module}
use Rattle.wasi_abi.specs.rules.Configs.{Settings}
use Rattle.process_rules.specs.Processes.{ProcessState}
use Rattle.state_image.specs.rules.ProcessImage.{Saved}
use Rattle.sector_disk.specs.rules.Medium.{Medium, LeavesOnly}
use Rattle.disk_layout.specs.rules.Journal.{Record}
use Rattle.worker_store.specs.restart_theorem.Lives.{Opened}
use Rattle.worker_store.specs.restart_theorem.Promises.{Promise, after}
use Rattle.worker_store.specs.restart_theorem.Holds.{CarriesPromise}
use Rattle.worker_store.specs.rules.Savepoints.{Savepoint, IsAtSavepoint, BeginsAtPoint, LeavesAll}
use Rattle.worker_store.specs.rules.Carried.{IsHeldAt}
use Rattle.worker_store.specs.laws.Carried.{PromisesNoMore, SavesFront}
use Rattle.worker_store.specs.laws.Telling.{AddsLines}

-- What a savepoint and its records hold, they hold still once lines of their process were told.
abbrev pub RetoldIsHeld : Type 0
RetoldIsHeld =
    (m : Module) (config : Settings) (promise promise' : Promise) (point : Savepoint m config)
    (records : List Record) (last : ProcessState) → IsHeldAt promise point records last
    → AddsLines promise (length last.host.lines) promise'
    → IsHeldAt promise' point records last

-- the disk of a worker that is recovered holds what its opening promises
pub record OpensAtNext {m : Module} {config : Settings} (less promise : Promise) (shown : Saved)
    (next : Savepoint m config) (old new : Medium) : Type 0 where
  pub carries : CarriesPromise m config less
      (after promise (Opened (length next.front) shown)) old new
  pub held : IsHeldAt (after promise (Opened (length next.front) shown)) next [] next.process

-- Once its process is committed, which its savepoint and records lead to, a cut at any moment
-- leaves what holds all that was promised when the recovery began.
abbrev pub RecoveryOpens : {D : Type 0} → (D → Medium) → Type 0
RecoveryOpens {D} medium =
    (m : Module) (config : Settings) (less promise : Promise) (shown : Saved)
    (point next : Savepoint m config) (records : List Record) (last : ProcessState) (old new : D)
    → PromisesNoMore less promise → IsHeldAt promise point records last
    → SavesFront promise point next records [] last → next.saved ≡ shown
    → LeavesOnly (medium old) (medium new)
    (λ disk. IsAtSavepoint point records last disk ⊎ BeginsAtPoint next disk)
    → LeavesAll (medium new) (IsAtSavepoint next [] next.process)
    → OpensAtNext less promise shown next (medium old) (medium new)
