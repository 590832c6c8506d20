-- What a barrier and a commit, one after the other, do to a store and its disk.
use Rattle.std.specs.Prelude.{◌≡◌, ◌⊎◌, ◌+◌, ◌-◌, ◌*◌, ◌<◌, ◌≤◌, true, List, ◌++◌, length, Result}
use Rattle.wasm_syntax.specs.declared.module.Module.{Module}
use Rattle.wasi_abi.specs.declared.numbers.TheConstants.{NUMBERS_END}
use Rattle.wasi_abi.specs.rules.Configs.{Settings}
use Rattle.process_rules.specs.Processes.{ProcessState}
use Rattle.process.specs.rules.Values.{ProcessValue}
use Rattle.state_image.specs.rules.ProcessImage.{process_image}
use Rattle.state_image.specs.rules.Saving.{saved_of}
use Rattle.sector_disk.specs.declared.disk_call.DiskCall.{DiskCall}
use Rattle.sector_disk.specs.declared.sector.TheConstants.{SECTOR_SIZE}
use Rattle.sector_disk.specs.rules.Medium.{Medium, LeavesOnly, PerformsCalls, spare}
use Rattle.disk_layout.specs.rules.Places.{area_place, rounded_up}
use Rattle.disk_layout.specs.rules.Journal.{Record}
use Rattle.journal.specs.rules.Packed.{sectors_for}
use Rattle.journal.specs.rules.Steps.{barrier_calls}
use Rattle.snapshot.specs.declared.writing.Writing.TheVariants.{Changes}
use Rattle.snapshot.specs.rules.Calls.{AreStores, with_head}
use Rattle.worker_store.specs.rules.Savepoints.{Savepoint, IsNextPoint, IsAtFrontOrNext}
use Rattle.worker_store.specs.declared.fault.StoreFault.{StoreFault}
use Rattle.worker_store.specs.declared.fault.StoreFault.TheVariants.{TooBig, Full, Disk, Failed}
use Rattle.worker_store.specs.declared.store.WorkerStore.{WorkerStore}
use Rattle.worker_store.specs.rules.Stores.{IsStoreOf}

-- a cut at any moment leaves a prefix of the records that are pending, or the new snapshot
abbrev pub LeavesFrontOrNext : WorkerStore → ProcessValue → Medium → Medium → Type 0
LeavesFrontOrNext store process old new =
    (m : Module) (config : Settings) (point next : Savepoint m config)
    (records pending : List Record) (last now : ProcessState)
    → IsStoreOf point store records pending last now old → IsNextPoint point next
    → next.saved ≡ saved_of process
    → LeavesOnly old new (IsAtFrontOrNext point next records last pending)

-- The records that are pending are written, and synced. Then some sectors of the image are written,
-- in rising order and each once at most. Behind a sync come the head of the next generation, and a
-- sync. After an error these calls are begun.
abbrev pub SaveCalls : {T : Type 0} → WorkerStore → ProcessValue → Result T StoreFault → Medium
    → Medium → Type 0
SaveCalls store process result old new = (stores : List DiskCall)
    × AreStores Changes (area_place store.geometry (store.journal.generation + 1))
    (rounded_up (length (process_image (saved_of process)))) stores
    × PerformsCalls (with_head (store.journal.generation + 1) stores
    ++ barrier_calls store.geometry store.journal) result old new

-- When each error comes, of any store and whatever is on the disk. The generation or the image is
-- too big, or the journal has too few sectors for the pending records. The disk failed, or before
-- its next good sync it surely takes too few writes. A call has failed before.
abbrev pub HasSaveCause : WorkerStore → ProcessValue → Medium → Medium → StoreFault → Type 0
HasSaveCause store process old new TooBig = (NUMBERS_END ≤ store.journal.generation + 1)
    ⊎ (SECTOR_SIZE * store.geometry.area_sectors < length (process_image (saved_of process)))
HasSaveCause store process old new Full = store.geometry.journal_sectors - store.journal.used
    < sectors_for (length store.journal.kept)
HasSaveCause store process old new (Disk fault) =
    (spare old < sectors_for (length store.journal.kept))
    ⊎ (spare old < store.geometry.area_sectors) ⊎ (old.room ≡ 0) ⊎ (old.faults < new.faults)
HasSaveCause store process old new Failed = store.journal.has_failed ≡ true
HasSaveCause store process old new other = ⊥
