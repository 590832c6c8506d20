-- What a creation does to a disk (this project's own).
use Rattle.std.specs.Prelude.{◌≡◌, ◌⊎◌, ℕ, ◌+◌, ◌*◌, ◌<◌, List, [], ◌∷◌, ◌++◌, length, max, Result}
use Rattle.std.specs.Prelude.{IfErr, IfOk}
use Rattle.wasm_syntax.specs.declared.module.Module.{Module}
use Rattle.wasi_abi.specs.rules.Configs.{Settings}
use Rattle.process.specs.rules.Values.{ProcessValue}
use Rattle.state_image.specs.rules.ProcessImage.{process_image}
use Rattle.state_image.specs.rules.Saving.{saved_of}
use Rattle.sector_disk.specs.declared.disk_call.DiskCall.{DiskCall}
use Rattle.sector_disk.specs.declared.disk_call.DiskCall.TheVariants.{Sync}
use Rattle.sector_disk.specs.declared.sector.TheConstants.{SECTOR_SIZE}
use Rattle.sector_disk.specs.rules.Calls.{rising_writes, synced_writes}
use Rattle.sector_disk.specs.rules.Medium.{Medium, CallsUpTo, CountsUpTo, LeavesOnly, PerformsCalls}
use Rattle.sector_disk.specs.rules.Medium.{spare}
use Rattle.disk_layout.specs.declared.fault.LayoutFault.TheVariants.{TooSmall}
use Rattle.disk_layout.specs.declared.geometry.Geometry.{Geometry}
use Rattle.disk_layout.specs.declared.geometry.TheConstants.{MODULE_PLACE}
use Rattle.disk_layout.specs.rules.Places.{area_place, journal_place, rounded_up}
use Rattle.disk_layout.specs.rules.Places.{geometry_of, total_sectors}
use Rattle.disk_layout.specs.rules.Unsynced.{most_unsynced}
use Rattle.snapshot.specs.rules.Calls.{with_head}
use Rattle.worker_store.specs.restart_theorem.Stands.{IsBlank, IsNumbered}
use Rattle.worker_store.specs.rules.Savepoints.{Savepoint, BeginsAtPoint, LeavesAll}
use Rattle.worker_store.specs.declared.fault.StoreFault.{StoreFault}
use Rattle.worker_store.specs.declared.fault.StoreFault.TheVariants.{Layout, TooBig, Disk, Memory}
use Rattle.worker_store.specs.declared.store.WorkerStore.{WorkerStore}
use Rattle.worker_store.specs.rules.Stores.{IsStoreOf, begun_store}

-- ---- the calls, the newest first

-- configuration and module, the heads, and the journal
abbrev pub behind_calls : Geometry → List DiskCall
behind_calls geometry =
    rising_writes (journal_place geometry) geometry.journal_sectors
    ++ (rising_writes 1 2 ++ rising_writes MODULE_PLACE geometry.module_sectors)

-- these, after the super and a sync, and a sync
abbrev pub contents_calls : Geometry → List DiskCall
contents_calls geometry = Sync ∷ (behind_calls geometry ++ synced_writes 0 1)

-- after them the image of the first generation, which has so many bytes, between syncs its head,
-- and then the super and a sync
abbrev pub creation_calls : Geometry → ℕ → List DiskCall
creation_calls geometry count =
    synced_writes 0 1
    ++ (with_head 1 (rising_writes (area_place geometry 1) (rounded_up count))
    ++ contents_calls geometry)

-- ---- the disk

-- a savepoint of generation 1, of these bytes of the module and this process
pub record IsFirstPoint {m : Module} {config : Settings} (bytes : List ℕ) (process : ProcessValue)
    (point : Savepoint m config) : Type 0 where
  pub generation : point.generation ≡ 1
  pub wasm : point.wasm ≡ bytes
  pub saved : point.saved ≡ saved_of process
  pub numbers : IsNumbered point.process

-- a cut at any moment leaves a blank disk, or one that begins at the first snapshot
abbrev pub LeavesBlankOrFirst : Settings → List ℕ → ProcessValue → Medium → Medium → Type 0
LeavesBlankOrFirst config wasm process old new =
    (m : Module) (point : Savepoint m config) → IsFirstPoint wasm process point
    → LeavesAll old IsBlank
    → LeavesOnly old new (λ disk. IsBlank disk ⊎ BeginsAtPoint point disk)

-- the disk begins at the first snapshot, and there are no records
abbrev pub StoresFirst : Settings → List ℕ → ProcessValue → WorkerStore → Medium → Type 0
StoresFirst config wasm process store new =
    (m : Module) (point : Savepoint m config) → IsFirstPoint wasm process point
    → IsStoreOf point store [] [] point.process point.process new

-- when each error of a creation comes
abbrev pub CreationFails : Geometry → ProcessValue → Medium → Medium → StoreFault → Type 0
CreationFails geometry process old new (Layout TooSmall) = old.sectors < total_sectors geometry
CreationFails geometry process old new TooBig =
    SECTOR_SIZE * geometry.area_sectors < length (process_image (saved_of process))
CreationFails geometry process old new Memory = Unit {0}
CreationFails geometry process old new (Disk fault) = (spare old ≡ 0)
    ⊎ (old.room < most_unsynced geometry) ⊎ (old.faults < new.faults)
CreationFails geometry process old new other = ⊥

-- A disk is laid out for a worker of this configuration and the bytes of this module, which begins
-- as this process.
pub record LaysOutDisk (config : Settings) (wasm : List ℕ) (process : ProcessValue)
    (result : Result WorkerStore StoreFault) (old new : Medium) : Type 0 where
  -- a cut at any moment leaves a blank disk, or one that begins at the first snapshot
  pub any_moment : LeavesBlankOrFirst config wasm process old new
  -- once it has answered Ok, each cut leaves the first snapshot
  pub durable : IfOk result (λ store. StoresFirst config wasm process store new)
  pub begun : IfOk result (λ store. store
      ≡ begun_store (geometry_of config (length wasm)) (saved_of process).version 1)
  -- its calls in this order; after an error these are begun
  pub calls : PerformsCalls (creation_calls (geometry_of config (length wasm))
      (length (process_image (saved_of process)))) result old new
  pub cause : IfErr result (λ e.
      CreationFails (geometry_of config (length wasm)) process old new e)
  -- few calls more than the disk has sectors
  pub asks : CallsUpTo (old.sectors + 9) old new
  -- at no moment were there more unsynced writes than before and one, or than ever wait for a sync
  pub counts : CountsUpTo (max (old.unsynced + 1)
      (most_unsynced (geometry_of config (length wasm)))) old new
