-- A worker that is created, and opens.
use Rattle.std.specs.Prelude.{◌≡◌, ◌⊎◌, true, []}
use Rattle.wasm_syntax.specs.declared.module.Module.{Module}
use Rattle.wasi_abi.specs.rules.Configs.{Settings}
use Rattle.state_image.specs.rules.ProcessImage.{Saved}
use Rattle.sector_disk.specs.rules.Medium.{Medium, LeavesOnly}
use Rattle.worker_store.specs.restart_theorem.Stands.{IsBlank}
use Rattle.worker_store.specs.restart_theorem.Lives.{Opened}
use Rattle.worker_store.specs.restart_theorem.Promises.{Promise, after}
use Rattle.worker_store.specs.restart_theorem.Holds.{IsNothingYet, CarriesPromise}
use Rattle.worker_store.specs.rules.Savepoints.{Savepoint, IsAtSavepoint, BeginsAtPoint, LeavesAll}
use Rattle.worker_store.specs.rules.Carried.{IsHeldAt}

-- the disk of a worker that is created holds what its opening promises
pub record OpensAtFirst {m : Module} {config : Settings} (promise : Promise) (shown : Saved)
    (first : Savepoint m config) (old new : Medium) : Type 0 where
  pub carries : CarriesPromise m config promise (after promise (Opened 0 shown)) old new
  pub held : IsHeldAt (after promise (Opened 0 shown)) first [] first.process

-- where nothing was promised before, and the creation has begun
abbrev pub CreationOpens : {D : Type 0} → (D → Medium) → Type 0
CreationOpens {D} medium =
    (m : Module) (config : Settings) (promise : Promise) (shown : Saved)
    (first : Savepoint m config) (old new : D) → IsNothingYet promise
    → promise.was_created ≡ true → first.front ≡ [] → first.saved.lines ≡ 0 → first.saved ≡ shown
    → LeavesOnly (medium old) (medium new) (λ disk. IsBlank disk ⊎ BeginsAtPoint first disk)
    → LeavesAll (medium new) (IsAtSavepoint first [] first.process)
    → OpensAtFirst promise shown first (medium old) (medium new)
