-- What the calls of a store do to it and to its disk (this project's own).
use Rattle.std.specs.Prelude.{◌≡◌, ◌⊎◌, ℕ, ◌+◌, ◌*◌, ◌<◌, ◌≤◌, List, [], ◌++◌, length, true, Result}
use Rattle.wasm_syntax.specs.declared.module.Module.{Module}
use Rattle.wasi_abi.specs.declared.numbers.TheConstants.{NUMBERS_END}
use Rattle.wasi_abi.specs.rules.Configs.{Settings}
use Rattle.process_rules.specs.Processes.{ProcessState}
use Rattle.process.specs.rules.Values.{ProcessValue}
use Rattle.state_image.specs.rules.ProcessImage.{process_image}
use Rattle.state_image.specs.rules.Saving.{saved_of}
use Rattle.sector_disk.specs.declared.sector.TheConstants.{SECTOR_SIZE}
use Rattle.sector_disk.specs.rules.Medium.{Medium, LeavesOnly, spare}
use Rattle.wasi_abi.specs.rules.Versions.{text_limit}
use Rattle.disk_layout.specs.rules.Journal.{Record, record_bytes, payload_of}
use Rattle.journal.specs.rules.Packed.{sectors_for}
use Rattle.journal.specs.rules.State.{room_of}
use Rattle.process_rules.specs.Runs.{Kept}
use Rattle.disk_layout.specs.declared.geometry.Geometry.{Geometry}
use Rattle.disk_layout.specs.rules.Places.{area_place, rounded_up, total_sectors}
use Rattle.snapshot.specs.declared.writing.Writing.TheVariants.{Changes}
use Rattle.snapshot.specs.rules.Calls.{PerformsStoresAndHead}
use Rattle.worker_store.specs.restart_theorem.Stands.{IsNumbered}
use Rattle.worker_store.specs.rules.Savepoints.{Savepoint, IsAtSavepoint, places, LeavesAll}
use Rattle.worker_store.specs.rules.Savepoints.{IsAtFront, BeginsAtPoint, IsNextPoint, StandsBefore}
use Rattle.worker_store.specs.declared.fault.StoreFault.{StoreFault}
use Rattle.worker_store.specs.declared.fault.StoreFault.TheVariants.{Full, TooLong, TooBig, Disk}
use Rattle.worker_store.specs.declared.fault.StoreFault.TheVariants.{Memory, Failed}
use Rattle.worker_store.specs.declared.store.WorkerStore.{WorkerStore}
use Rattle.worker_store.specs.rules.Stores.{IsStoreOf}

-- ---- append

-- When each error of `append` comes. Where the record fits, out of memory is the only one.
abbrev pub AppendFails : WorkerStore → Record → StoreFault → Type 0
AppendFails store r Full = (length (payload_of r.answer) ≤ text_limit store.journal.version)
    × (room_of store.geometry store.journal < length (record_bytes store.journal.version r))
AppendFails store r TooLong = text_limit store.journal.version < length (payload_of r.answer)
AppendFails store r Memory = (length (payload_of r.answer) ≤ text_limit store.journal.version)
    × (length (record_bytes store.journal.version r) ≤ room_of store.geometry store.journal)
AppendFails store r Failed = store.journal.has_failed ≡ true
AppendFails store r other = ⊥

-- ---- barrier

-- a cut at any moment leaves a prefix of the records that are pending
abbrev pub LeavesFronts : WorkerStore → Medium → Medium → Type 0
LeavesFronts store old new =
    (m : Module) (config : Settings) (point : Savepoint m config) (records pending : List Record)
    (last now : ProcessState) → IsStoreOf point store records pending last now old
    → LeavesOnly old new (IsAtFront point records last pending)

-- all of them are on the disk, and none is pending
abbrev pub StoresAll : WorkerStore → WorkerStore → Medium → Medium → Type 0
StoresAll before after old new =
    (m : Module) (config : Settings) (point : Savepoint m config) (records pending : List Record)
    (last now : ProcessState) → IsStoreOf point before records pending last now old
    → IsStoreOf point after (records ++ pending) [] now now new

-- when each error of `barrier` comes
abbrev pub BarrierFails : WorkerStore → Medium → Medium → StoreFault → Type 0
BarrierFails store old new Full = (0 < length store.journal.kept)
    × (store.geometry.journal_sectors
    < store.journal.used + sectors_for (length store.journal.kept))
BarrierFails store old new (Disk fault) = (old.sectors < total_sectors store.geometry)
    ⊎ (spare old < sectors_for (length store.journal.kept)) ⊎ (old.faults < new.faults)
BarrierFails store old new Failed = store.journal.has_failed ≡ true
BarrierFails store old new other = ⊥

-- ---- commit

-- a cut at any moment leaves what stood before, or the new snapshot
abbrev pub LeavesOneOfTwo : WorkerStore → ProcessValue → Medium → Medium → Type 0
LeavesOneOfTwo store process old new =
    (m : Module) (config : Settings) (point next : Savepoint m config)
    (records pending : List Record) (last now : ProcessState)
    → IsStoreOf point store records pending last now old → IsNextPoint point next
    → next.saved ≡ saved_of process
    → LeavesOnly old new (λ disk. IsAtSavepoint point records last disk ⊎ BeginsAtPoint next disk)

-- the disk begins at the new snapshot, and there are no records
abbrev pub StoresNext : WorkerStore → WorkerStore → ProcessValue → Medium → Medium → Type 0
StoresNext before after process old new =
    (m : Module) (config : Settings) (point next : Savepoint m config)
    (records pending : List Record) (last now : ProcessState)
    → IsStoreOf point before records pending last now old → IsNextPoint point next
    → next.saved ≡ saved_of process
    → IsStoreOf next after [] [] next.process next.process new

-- some sectors of the image in rising order, each once at most, a sync, the head of this
-- generation, and a sync; after an error these calls are begun
abbrev pub CommitCalls : {T : Type 0} → Geometry → ℕ → ProcessValue → Result T StoreFault → Medium
    → Medium → Type 0
CommitCalls geometry g process result old new = PerformsStoresAndHead (record {
  writing = Changes;
  first = area_place geometry g;
  count = rounded_up (length (process_image (saved_of process)));
}) g result old new

-- when each error of `commit` comes
abbrev pub CommitFails : WorkerStore → ProcessValue → Medium → Medium → StoreFault → Type 0
CommitFails store process old new TooBig = (NUMBERS_END ≤ store.journal.generation + 1)
    ⊎ (SECTOR_SIZE * store.geometry.area_sectors < length (process_image (saved_of process)))
CommitFails store process old new (Disk fault) = (old.sectors < total_sectors store.geometry)
    ⊎ (spare old < store.geometry.area_sectors) ⊎ (old.room ≡ 0) ⊎ (old.faults < new.faults)
CommitFails store process old new Failed = store.journal.has_failed ≡ true
CommitFails store process old new other = ⊥

-- ---- a commit whatever the disk stands by

-- a savepoint of this generation and this process, of a module that takes such a place
pub record IsAgain {m : Module} {config : Settings} (geometry : Geometry) (g : ℕ)
    (process : ProcessValue) (next : Savepoint m config) : Type 0 where
  pub placed : geometry ≡ places next
  pub generation : next.generation ≡ g
  pub saved : next.saved ≡ saved_of process
  pub numbers : IsNumbered next.process

-- a cut at any moment leaves what stands for the same answers, or the new snapshot
abbrev pub LeavesBeforeOrNext : Geometry → ℕ → ProcessValue → Medium → Medium → Type 0
LeavesBeforeOrNext geometry g process old new =
    (m : Module) (config : Settings) (next : Savepoint m config) (kept : List Kept) (n : ℕ)
    → IsAgain geometry g process next → LeavesAll old (StandsBefore next kept n)
    → LeavesOnly old new (λ disk. StandsBefore next kept n disk ⊎ BeginsAtPoint next disk)

-- A cut at any moment leaves the savepoint and the records that stood there, or the new snapshot.
abbrev pub LeavesPointOrNext : Geometry → ℕ → ProcessValue → Medium → Medium → Type 0
LeavesPointOrNext geometry g process old new =
    (m : Module) (config : Settings) (point next : Savepoint m config) (records : List Record)
    (last : ProcessState) → IsAgain geometry g process next → IsNextPoint point next
    → LeavesAll old (IsAtSavepoint point records last)
    → LeavesOnly old new (λ disk. IsAtSavepoint point records last disk ⊎ BeginsAtPoint next disk)

-- the disk begins at the new snapshot, and there are no records
abbrev pub StoresAgain : Geometry → ℕ → ProcessValue → WorkerStore → Medium → Medium → Type 0
StoresAgain geometry g process store old new =
    (m : Module) (config : Settings) (next : Savepoint m config) (kept : List Kept) (n : ℕ)
    → IsAgain geometry g process next → LeavesAll old (StandsBefore next kept n)
    → IsStoreOf next store [] [] next.process next.process new

-- when each error of it comes
abbrev pub ReopeningFails : Geometry → ℕ → ProcessValue → Medium → Medium → StoreFault → Type 0
ReopeningFails geometry g process old new TooBig = (NUMBERS_END ≤ g)
    ⊎ (SECTOR_SIZE * geometry.area_sectors < length (process_image (saved_of process)))
ReopeningFails geometry g process old new (Disk fault) = (old.sectors < total_sectors geometry)
    ⊎ (spare old < geometry.area_sectors) ⊎ (old.room ≡ 0) ⊎ (old.faults < new.faults)
ReopeningFails geometry g process old new other = ⊥
