-- What the parts of a recovery do after the reads: a replay, and the next generation.
use Rattle.std.specs.Prelude.{◌≡◌, ◌⊎◌, ℕ, ◌+◌, false, is_some, Result, Ok, Err}
use Rattle.process.specs.rules.Values.{ProcessValue, IsProcess}
use Rattle.sector_disk.specs.rules.DiskImage.{DiskImage}
use Rattle.sector_disk.specs.rules.Medium.{Medium, CallsUpTo, Passes, CountsUpTo}
use Rattle.disk_layout.specs.declared.geometry.Geometry.{Geometry}
use Rattle.record_replay.specs.declared.fault.ReplayFault.{ReplayFault}
use Rattle.record_replay.specs.rules.Calls.{Taking}
use Rattle.record_replay.specs.rules.Replays.{Replays, ReplaysInVain}
use Rattle.worker_store.specs.declared.fault.StoreFault.{StoreFault}
use Rattle.worker_store.specs.declared.store.WorkerStore.{WorkerStore}
use Rattle.worker_store.specs.rules.Calls.{LeavesPointOrNext, StoresAgain, ReopeningFails}
use Rattle.worker_store.specs.rules.Calls.{CommitCalls}
use Rattle.state_image.specs.rules.Saving.{saved_of}
use Rattle.worker_store.specs.rules.Stores.{begun_store}
use Rattle.worker.specs.declared.found.Found.{Found}
use Rattle.worker.specs.declared.recover_fault.RecoverFault.{RecoverFault}
use Rattle.worker.specs.declared.recover_fault.RecoverFault.TheVariants.{Worker, Replay}
use Rattle.worker.specs.rules.CallCounts.{most_committing}
use Rattle.worker.specs.rules.WorkFaults.{fault_of_store}
use Rattle.worker.specs.rules.DurableValues.{DurableValue}

-- ---- the next generation

-- A cut at any moment leaves what stood there, or the next generation; no image comes of none. At
-- no moment were there more unsynced writes than before, an area's, and the head.
pub record WritesNext (geometry : Geometry) (generation : ℕ) (v : ProcessValue) (mid new : Medium)
    : Type 0 where
  pub leaves : LeavesPointOrNext geometry (generation + 1) v mid new
  pub passes : Passes mid new (λ _. Unit {0})
  pub counts : CountsUpTo (mid.unsynced + geometry.area_sectors + 1) mid new
  pub some : (image : DiskImage) → new.crash_images image → (before : DiskImage)
      × mid.crash_images before
  pub counted : CallsUpTo (mid.sectors + 2) mid new
  pub few : CallsUpTo (most_committing geometry) mid new

-- it is there, and this is its store
pub record OpensStore (geometry : Geometry) (generation : ℕ) (v : ProcessValue)
    (store : WorkerStore) (mid new : Medium) : Type 0 where
  pub writes : WritesNext geometry generation v mid new
  pub stores : StoresAgain geometry (generation + 1) v store mid new
  pub begun : store ≡ begun_store geometry (saved_of v).version (generation + 1)
  pub numbered : store.journal.generation ≡ generation + 1
  pub placed : store.geometry ≡ geometry
  pub calls : CommitCalls {T = WorkerStore} geometry (generation + 1) v (Ok store) mid new

-- it couldn't be written
pub record OpensNone (geometry : Geometry) (generation : ℕ) (v : ProcessValue)
    (why : RecoverFault) (mid new : Medium) : Type 0 where
  pub writes : WritesNext geometry generation v mid new
  pub fault : StoreFault
  pub fails : ReopeningFails geometry (generation + 1) v mid new fault
  pub is : why ≡ Worker (fault_of_store fault)

-- one of the two
abbrev pub OpensNext : Geometry → ℕ → ProcessValue → Result WorkerStore RecoverFault → Medium
    → Medium → Type 0
OpensNext geometry generation v (Ok store) mid new =
    OpensStore geometry generation v store mid new
OpensNext geometry generation v (Err why) mid new = OpensNone geometry generation v why mid new

-- so it is with the worker that has this store
pub record IsOpenedAs (v : ProcessValue) (count : ℕ) (w : DurableValue) : Type 0 where
  pub process : w.process ≡ v
  pub replayed : w.replayed ≡ count
  pub unfailed : w.has_failed ≡ false
  pub abreast : w.is_abreast ≡ is_some v.ended

abbrev pub OpensAgain : Geometry → ℕ → ProcessValue → ℕ → Result DurableValue RecoverFault
    → Medium → Medium → Type 0
OpensAgain geometry generation v count (Ok w) mid new =
    IsOpenedAs v count w × OpensStore geometry generation v w.store mid new
OpensAgain geometry generation v count (Err why) mid new =
    OpensNone geometry generation v why mid new

-- ---- a replay, and then the next generation

-- the records of what was found have led to this process
pub record IsReplayed {O : Type 0} (takes : Taking O) (found : Found) (v : ProcessValue)
    (count : ℕ) (outlet outlet' : O) : Type 0 where
  pub replays : Replays takes found.process found.records.items v outlet outlet'
  pub counted : v.steps ≡ found.process.steps + count
  pub module_same : v.machine.guest ≡ found.process.machine.guest
  pub some : IsProcess v

-- they haven't, and nothing was asked of the disk
pub record StopsInVain {D O : Type 0} (takes : Taking O) (found : Found) (why : RecoverFault)
    (mid new : D) (outlet outlet' : O) : Type 0 where
  pub fault : ReplayFault
  pub is : why ≡ Replay fault
  pub stops : ReplaysInVain takes found.process found.records.items fault outlet outlet'
  pub same : new ≡ mid

-- they have, but the next generation couldn't be written
pub record ReplaysForNothing {O : Type 0} (takes : Taking O) (found : Found) (why : RecoverFault)
    (mid new : Medium) (outlet outlet' : O) : Type 0 where
  pub process : ProcessValue
  pub count : ℕ
  pub replayed : IsReplayed takes found process count outlet outlet'
  pub none : OpensNone found.geometry found.generation process why mid new

-- what becomes of what was found
abbrev pub RevivesFound : {D O : Type 0} → (D → Medium) → Taking O → Found
    → Result DurableValue RecoverFault → D → D → O → O → Type 0
RevivesFound medium takes found (Ok w) mid new outlet outlet' =
    IsReplayed takes found w.process w.replayed outlet outlet'
    × OpensStore found.geometry found.generation w.process w.store (medium mid) (medium new)
    × (w.has_failed ≡ false) × (w.is_abreast ≡ is_some w.process.ended)
RevivesFound medium takes found (Err why) mid new outlet outlet' =
    StopsInVain takes found why mid new outlet outlet'
    ⊎ ReplaysForNothing takes found why (medium mid) (medium new) outlet outlet'
