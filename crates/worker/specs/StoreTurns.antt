-- What the parts of a slice do to a store and its disk, whatever is on that.
use Rattle.std.specs.Prelude.{◌≡◌, ℕ, ◌+◌, ◌≤◌, true, false, List, [], ◌∷◌, ◌++◌, drop}
use Rattle.std.specs.Prelude.{Result, Ok, Err}
use Rattle.sector_disk.specs.declared.disk_call.DiskCall.{DiskCall}
use Rattle.sector_disk.specs.rules.Medium.{Medium, Passes}
use Rattle.worker_store.specs.declared.fault.StoreFault.{StoreFault}
use Rattle.worker_store.specs.declared.fault.StoreFault.TheVariants as store
use Rattle.worker_store.specs.declared.store.WorkerStore.{WorkerStore}
use Rattle.worker_store.specs.rules.Stores.{IsOfStore}
use Rattle.record_replay.specs.declared.slices.fault.SliceFault.TheVariants as slice
use Rattle.worker.specs.declared.fault.WorkFault.{WorkFault}
use Rattle.worker.specs.declared.fault.WorkFault.TheVariants.{Work, Disk, Store, Upgrade}
use Rattle.worker.specs.rules.DurableFailures.{HasStoreCause}
use Rattle.worker.specs.rules.WorkFaults.{fault_of_store}
use Rattle.worker.specs.rules.SliceCalls.{AreSliceCalls, AreLastCalls}
use Rattle.worker.specs.rules.Unsynced.{CountsInSlice}

-- it goes on: these calls of the disk were made
pub record StoreGoes (old new : WorkerStore) (disk disk' : Medium) : Type 0 where
  pub geometry : new.geometry ≡ old.geometry
  pub passes : Passes disk disk' (λ _. Unit {0})
  pub unsynced : disk'.unsynced ≤ disk.unsynced
  pub counts : CountsInSlice old.geometry disk disk'
  pub works : old.journal.has_failed ≡ false → new.journal.has_failed ≡ false
  pub made : List DiskCall
  pub are : AreSliceCalls old.geometry old.journal.generation new.journal.generation made
  pub calls : disk'.calls ≡ made ++ disk.calls

-- why it has failed
abbrev pub HasTurnCause : WorkerStore → Medium → Medium → WorkFault → Type 0
HasTurnCause old disk disk' why =
    HasStoreCause old.geometry old.journal.has_failed disk disk' why

-- it has failed: after these calls of the disk others were begun
pub record StoreStops (old new : WorkerStore) (why : WorkFault) (disk disk' : Medium) : Type 0
  where
    pub geometry : new.geometry ≡ old.geometry
    pub passes : Passes disk disk' (λ _. Unit {0})
    pub counts : CountsInSlice old.geometry disk disk'
    pub made : List DiskCall
    pub are : AreSliceCalls old.geometry old.journal.generation new.journal.generation made
    pub last : List DiskCall
    pub last_are : AreLastCalls old.geometry new.journal.generation last
    pub left_out : ℕ
    pub calls : disk'.calls ≡ drop left_out last ++ (made ++ disk.calls)
    pub cause : HasTurnCause old disk disk' why

-- one of the two
abbrev pub StoreRuns : {T : Type 0} → Result T WorkFault → WorkerStore → WorkerStore → Medium
    → Medium → Type 0
StoreRuns (Ok done) old new disk disk' = StoreGoes old new disk disk'
StoreRuns (Err why) old new disk disk' = StoreStops old new why disk disk'

-- the same of a save, by the fault of its store
abbrev pub StoreSaves : Result (Unit {0}) StoreFault → WorkerStore → WorkerStore → Medium → Medium
    → Type 0
StoreSaves (Ok done) old new disk disk' = StoreGoes old new disk disk'
StoreSaves (Err fault) old new disk disk' = StoreStops old new (fault_of_store fault) disk disk'

-- why an answer isn't kept, for which the disk isn't asked
abbrev pub HasHearingCause : WorkerStore → WorkFault → Type 0
HasHearingCause old (Disk fault) = ⊥
HasHearingCause old (Work slice.Failed) = old.journal.has_failed ≡ true
HasHearingCause old (Work other) = Unit {0}
HasHearingCause old (Store store.Full) = Unit {0}
HasHearingCause old (Store store.TooLong) = Unit {0}
HasHearingCause old (Store other) = ⊥
HasHearingCause old (Upgrade fault) = ⊥

-- an answer is heard, without a call of the disk
pub record StoreHears (old new : WorkerStore) : Type 0 where
  pub stays : IsOfStore old new
  pub works : old.journal.has_failed ≡ false → new.journal.has_failed ≡ false

-- it isn't
pub record StoreHearsNone (old new : WorkerStore) (why : WorkFault) : Type 0 where
  pub stays : IsOfStore old new
  pub cause : HasHearingCause old why

-- one of the two
abbrev pub HearsOrNot : {T : Type 0} → Result T WorkFault → WorkerStore → WorkerStore → Type 0
HearsOrNot (Ok done) old new = StoreHears old new
HearsOrNot (Err why) old new = StoreHearsNone old new why

-- ---- how many calls

-- a barrier still takes so many calls of the disk at most: none where no record waits in memory
abbrev pub owed : ℕ → List ℕ → ℕ
owed sectors [] = 0
owed sectors (byte ∷ bytes) = sectors

-- one takes no more than that, and after it none is owed
abbrev pub PaysCalls : {T : Type 0} → Result T WorkFault → WorkerStore → WorkerStore → Medium
    → Medium → Type 0
PaysCalls (Ok done) old new disk disk' =
    disk'.counted + owed disk.sectors new.journal.kept
    ≤ disk.counted + owed disk.sectors old.journal.kept
PaysCalls (Err why) old new disk disk' =
    disk'.counted ≤ disk.counted + owed disk.sectors old.journal.kept

-- What a call leaves of a store and its disk that puts records on the disk where it has to.
pub record LeavesStore {T : Type 0} (result : Result T WorkFault) (old new : WorkerStore)
    (disk disk' : Medium) : Type 0 where
  pub runs : StoreRuns result old new disk disk'
  pub pays : PaysCalls result old new disk disk'
  pub places : new.geometry ≡ old.geometry
  pub sectors : disk'.sectors ≡ disk.sectors
