-- A worker that is recovered from its disk (this project's own).
use Rattle.std.specs.Prelude.{◌≡◌, ◌⊎◌, ℕ, suc, ◌+◌, ◌-◌, ◌*◌, ◌≤◌, ◌<◌, false, List, [], ◌∷◌}
use Rattle.std.specs.Prelude.{◌++◌, length, map, drop, is_some, Result, Ok, Err}
use Rattle.wasm_syntax.specs.declared.module.Module.{Module}
use Rattle.wasi_abi.specs.declared.numbers.TheConstants.{NUMBERS_END}
use Rattle.wasi_abi.specs.rules.Configs.{Settings}
use Rattle.wasi_calls_rules.specs.WasiStates.{Line}
use Rattle.process_rules.specs.Processes.{ProcessState, Guest}
use Rattle.process_rules.specs.Runs.{Kept}
use Rattle.process.specs.rules.Values.{ShowsProcess}
use Rattle.state_image.specs.rules.ProcessImage.{process_image}
use Rattle.state_image.specs.rules.Saving.{saved_of}
use Rattle.sector_disk.specs.declared.disk_call.DiskCall.{DiskCall}
use Rattle.sector_disk.specs.declared.disk_call.DiskCall.TheVariants.{Sync}
use Rattle.sector_disk.specs.declared.fault.DiskFault.{DiskFault}
use Rattle.sector_disk.specs.rules.DiskImage.{DiskImage}
use Rattle.sector_disk.specs.rules.Medium.{Medium, IsAllSynced, Stays, BeginsCalls, LeavesOnly}
use Rattle.sector_disk.specs.rules.Medium.{CallsUpTo, CountsUpTo}
use Rattle.disk_layout.specs.declared.fault.LayoutFault.TheVariants as layout
use Rattle.disk_layout.specs.declared.geometry.Geometry.{Geometry}
use Rattle.disk_layout.specs.rules.Places.{geometry_of, area_place, rounded_up, total_sectors}
use Rattle.snapshot.specs.declared.writing.Writing.TheVariants.{Changes}
use Rattle.snapshot.specs.rules.Calls.{AreStores, with_head}
use Rattle.record_replay.specs.declared.fault.ReplayFault.TheVariants as replay
use Rattle.record_replay.specs.rules.Calls.{Taking, Begun, Tells, Releases, all_taken}
use Rattle.record_replay.specs.rules.Replays.{TellsFrom, RefusesFrom}
use Rattle.worker_store.specs.restart_theorem.Stands.{StandsFor, IsBlank}
use Rattle.worker_store.specs.restart_theorem.Lives.{Inputs, Event, Opened}
use Rattle.worker_store.specs.restart_theorem.Courses.{Phase, Shut, Unheard, at_first, stage_after}
use Rattle.worker_store.specs.restart_theorem.Promises.{Promise, promised, AreKept}
use Rattle.worker_store.specs.restart_theorem.Holds.{IsUnopened, DiskImageHolds, KeepsPromise}
use Rattle.worker_store.specs.restart_theorem.Holds.{CarriesPromise, KeepsBounds, StaysWithin}
use Rattle.worker_store.specs.restart_theorem.Exchanges.{AreEvents}
use Rattle.worker_store.specs.rules.BetweenCalls.{IsForetold}
use Rattle.worker_store.specs.declared.fault.StoreFault.TheVariants as store
use Rattle.worker.specs.declared.fault.WorkFault.TheVariants.{Disk, Store}
use Rattle.worker.specs.declared.recover_fault.RecoverFault.{RecoverFault}
use Rattle.worker.specs.declared.recover_fault.RecoverFault.TheVariants.{Worker, Layout, Replay}
use Rattle.worker.specs.rules.CallCounts.{most_recovering}
use Rattle.worker.specs.rules.DurableCalls.{TakesTooFew}
use Rattle.worker.specs.rules.DurableValues.{DurableValue}
use Rattle.worker.specs.rules.OpenWorkers.{IsOpenOn}
use Rattle.worker.specs.rules.RecoverFaults.{LayerWantsMemory, IsOfItsLayer}

-- ---- what is on the disk decides

-- that there is no worker
abbrev pub IsNoWorker : RecoverFault → Type 0
IsNoWorker (Layout layout.NotAWorker) = Unit {0}
IsNoWorker other = ⊥

-- that, or the layout wants memory, or the disk fails
abbrev pub IsNoWorkerOr : RecoverFault → Type 0
IsNoWorkerOr (Layout layout.NotAWorker) = Unit {0}
IsNoWorkerOr (Layout layout.Memory) = Unit {0}
IsNoWorkerOr (Worker (Disk fault)) = Unit {0}
IsNoWorkerOr other = ⊥

-- an error that says nothing of what is on the disk: a layer wants memory, or the disk fails
abbrev pub SaysNothing : RecoverFault → Type 0
SaysNothing (Worker (Disk fault)) = Unit {0}
SaysNothing other = LayerWantsMemory other

-- a result says that there is no worker
abbrev pub SaysNoWorker : {T : Type 0} → Result T RecoverFault → Type 0
SaysNoWorker (Ok found) = ⊥
SaysNoWorker (Err why) = IsNoWorker why

-- that, or the layout wants memory, or the disk fails
abbrev pub SaysNoWorkerOr : {T : Type 0} → Result T RecoverFault → Type 0
SaysNoWorkerOr (Ok found) = ⊥
SaysNoWorkerOr (Err why) = IsNoWorkerOr why

-- it says so only where a mark of one is missing, and always there
pub record MarksDecide {T : Type 0} (disk : DiskImage) (result : Result T RecoverFault)
    : Type 0 where
  pub only : SaysNoWorker result → IsBlank disk
  pub always : IsBlank disk → SaysNoWorkerOr result

-- The worker is at the process that the image's answers lead to, one generation on. As many steps
-- were replayed as lie between the saved process and that one. Only where that has ended does the
-- worker say that no line is beyond it: else an earlier life may have told some.
pub record IsRevived {disk : DiskImage} {m : Module} {config : Settings} {kept : List Kept} {n : ℕ}
    (stands : StandsFor disk m config kept n) (w : DurableValue) : Type 0 where
  pub shows : ShowsProcess w.process stands.reached.guest stands.last
  pub module_is : w.process.machine.guest ≡ m
  pub generation : w.store.journal.generation ≡ stands.generation + 1
  pub counted : w.replayed ≡ n - stands.process.steps
  pub unfailed : w.has_failed ≡ false
  pub abreast : w.is_abreast ≡ is_some stands.last.ended

-- Some of the lines of p after the first so many were released, each once, in their order, with
-- their numbers. The outlet took them.
pub record TellsSome {O : Type 0} (takes : Taking O) (released : ℕ) (p : ProcessState)
    (outlet outlet' : O) : Type 0 where
  pub told : List Line
  pub others : List Line
  pub are : drop released p.host.lines ≡ told ++ others
  pub releases : Releases takes outlet (all_taken (suc released) told) outlet'

-- An error of it comes when out of memory, or from the outlet or the disk. Or the number of the
-- next generation is at its end. Memory is wanted by the replay, some lines told, or by a layer
-- before it, and nothing is told.
abbrev pub RevivesInVain : {O : Type 0} {disk : DiskImage} {m : Module} {config : Settings}
    {kept : List Kept} {n : ℕ} → Taking O → StandsFor disk m config kept n → RecoverFault → O → O
    → Type 0
RevivesInVain takes stands (Replay replay.Memory) outlet outlet' =
    TellsSome takes stands.saved.lines stands.last outlet outlet'
RevivesInVain takes stands (Replay replay.Outlet) outlet outlet' =
    RefusesFrom takes stands.saved.lines stands.last outlet outlet'
RevivesInVain takes stands (Worker (Disk fault)) outlet outlet' =
    TellsSome takes stands.saved.lines stands.last outlet outlet'
RevivesInVain takes stands (Worker (Store store.TooBig)) outlet outlet' =
    (NUMBERS_END ≤ stands.generation + 1)
    × TellsFrom takes stands.saved.lines stands.last outlet outlet'
RevivesInVain takes stands other outlet outlet' = LayerWantsMemory other × (outlet' ≡ outlet)

-- What a recovery of it answers. Each line after those of the saved process was told, once and in
-- order, or the first of them, where it fails.
abbrev pub Revives : {O : Type 0} {disk : DiskImage} {m : Module} {config : Settings}
    {kept : List Kept} {n : ℕ} → Taking O → StandsFor disk m config kept n
    → Result DurableValue RecoverFault → O → O → Type 0
Revives takes stands (Ok w) outlet outlet' =
    IsRevived stands w × TellsFrom takes stands.saved.lines stands.last outlet outlet'
Revives takes stands (Err why) outlet outlet' = RevivesInVain takes stands why outlet outlet'

-- whatever worker the image stands for, on a disk of so many sectors
pub record RecoversFrom {O : Type 0} (takes : Taking O) (sectors : ℕ) (disk : DiskImage)
    (result : Result DurableValue RecoverFault) (outlet outlet' : O) : Type 0 where
  pub marks : MarksDecide disk result
  pub revives : (m : Module) (config : Settings) (kept : List Kept) (n : ℕ)
      (stands : StandsFor disk m config kept n)
      → total_sectors (geometry_of config (length stands.wasm)) ≤ sectors
      → Revives takes stands result outlet outlet'

-- The disk is synced once, and then it was only read. A cut leaves what it may have left
-- before. At no moment were there more unsynced writes than before.
pub record IsJustSynced (old mid : Medium) : Type 0 where
  pub all_synced : IsAllSynced mid
  pub stays : Stays old mid
  pub leaves : LeavesOnly old mid old.crash_images
  pub counts : CountsUpTo old.unsynced old mid
  pub calls : mid.calls ≡ Sync ∷ old.calls
  -- no sector is read more than twice
  pub counted : CallsUpTo (2 * old.sectors + 1) old mid

-- it couldn't be, and nothing was told
pub record SyncFails {T O : Type 0} (result : Result T RecoverFault) (old new : Medium)
    (outlet outlet' : O) : Type 0 where
  pub fault : DiskFault
  pub is : result ≡ Err (Worker (Disk fault))
  pub stays : Stays old new
  pub calls : BeginsCalls (Sync ∷ []) old new
  pub faulted : old.faults < new.faults
  pub none_told : outlet' ≡ outlet

-- The calls of the disk after the reads, once the worker is open. They are some sectors of its
-- image, in rising order and each once at most, a sync, the head of its generation, and a sync.
abbrev pub OpeningCalls : DurableValue → Medium → Medium → Type 0
OpeningCalls w mid new = (stores : List DiskCall)
    × AreStores Changes (area_place w.store.geometry w.store.journal.generation)
    (rounded_up (length (process_image (saved_of w.process)))) stores
    × (new.calls ≡ with_head w.store.journal.generation stores ++ mid.calls)

-- ---- what was promised

-- what happens in a recovery, its opening included
abbrev pub recovery_events : List Event → ℕ → DurableValue → List Event
recovery_events events held w = events ++ Opened held (saved_of w.process) ∷ []

-- The lines that were told, and the opening, keep what was promised. The worker is open on the
-- disk. Until it has opened a cut may leave any of the answers kept so far.
pub record Reopens (m : Module) (config : Settings) (promise : Promise) (inputs : Inputs)
    (told : List Begun) (w : DurableValue) (old new : Medium) : Type 0 where
  pub events : List Event
  pub are : AreEvents (map Tells told) events
  pub held : ℕ
  pub kept : AreKept m config promise (at_first inputs) (recovery_events events held w)
  pub at_any_moment : LeavesOnly old new (DiskImageHolds m config promise (promised promise events))
  pub in_the_end : KeepsPromise m config (promised promise (recovery_events events held w)) new
  pub bounded : StaysWithin (promised promise (recovery_events events held w)).events old new
  pub counted : CallsUpTo (most_recovering old.sectors) old new
  pub guest : Guest
  pub process : ProcessState
  pub opened : IsOpenOn m config guest (promised promise (recovery_events events held w))
      (stage_after (at_first inputs) (recovery_events events held w)) process w new

-- Where a life is whose recovery fails so. The disk failed since, or takes too few writes. Or
-- memory was refused, or the outlet took a line no more. Or so much has happened that the number of
-- a generation may be at its end. No other error comes.
abbrev pub MayNotReopen : Settings → Promise → Phase → RecoverFault → Medium → Medium → Type 0
MayNotReopen config promise phase (Replay replay.Memory) old new = phase ≡ Shut
MayNotReopen config promise phase (Replay replay.Outlet) old new = phase ≡ Unheard
MayNotReopen config promise phase (Worker (Disk fault)) old new =
    (phase ≡ Shut) × (TakesTooFew config old ⊎ (old.faults < new.faults))
MayNotReopen config promise phase (Worker (Store store.TooBig)) old new =
    (phase ≡ Shut) × (NUMBERS_END ≤ promise.events + 1)
MayNotReopen config promise phase other old new = (phase ≡ Shut) × LayerWantsMemory other

-- When an error comes, whatever is on the disk. A fault of the disk is told as that, and comes only
-- where the disk has failed since. Or it surely takes fewer writes between two syncs than an area
-- has sectors of some worker for which it has room, or none. No layer says that a call of it has
-- failed before.
abbrev pub HasRecoveryCause : Medium → Medium → RecoverFault → Type 0
HasRecoveryCause old new (Worker (Disk fault)) = (old.faults < new.faults)
    ⊎ ((places : Geometry) × (total_sectors places ≤ old.sectors)
    × ((old.room < places.area_sectors) ⊎ (old.room ≡ 0)))
HasRecoveryCause old new other = IsOfItsLayer other

-- The lines that were told keep what was promised, and so does the disk.
pub record ReopensInVain (m : Module) (config : Settings) (promise : Promise) (inputs : Inputs)
    (told : List Begun) (why : RecoverFault) (old new : Medium) : Type 0 where
  pub events : List Event
  pub are : AreEvents (map Tells told) events
  pub kept : AreKept m config promise (at_first inputs) events
  pub carried : CarriesPromise m config promise (promised promise events) old new
  pub bounded : StaysWithin ((promised promise events).events + 1) old new
  pub counted : CallsUpTo (most_recovering old.sectors) old new
  pub may : MayNotReopen config promise (stage_after (at_first inputs) events).phase why old new

-- No image that a cut may leave has the marks of a worker, and nothing was promised of one. Nothing
-- was told.
pub record FindsNone (promise : Promise) (told : List Begun) (old new : Medium) : Type 0 where
  pub none_told : told ≡ []
  pub unopened : (image : DiskImage) → new.crash_images image → IsUnopened promise image
  pub bounded : StaysWithin promise.events old new
  pub counted : CallsUpTo (most_recovering old.sectors) old new

-- by the error that there is no worker, and by any other
abbrev pub EndsInVain : Module → Settings → Promise → Inputs → List Begun → RecoverFault → Medium
    → Medium → Type 0
EndsInVain m config promise inputs told (Layout layout.NotAWorker) old new =
    FindsNone promise told old new
EndsInVain m config promise inputs told why old new =
    ReopensInVain m config promise inputs told why old new

-- by Ok and by any error
abbrev pub ReopensOrNot : Module → Settings → Promise → Inputs → List Begun
    → Result DurableValue RecoverFault → Medium → Medium → Type 0
ReopensOrNot m config promise inputs told (Ok w) old new =
    Reopens m config promise inputs told w old new
ReopensOrNot m config promise inputs told (Err why) old new =
    EndsInVain m config promise inputs told why old new

-- Whatever was promised of the worker on the disk, a recovery keeps it, wherever a life is
-- whose outlet will take what it now took. In the end there is an image that a cut may leave: the
-- answers of the disk fit one.
abbrev pub RecoveryCarries : {O : Type 0} → Taking O → Result DurableValue RecoverFault → Medium
    → Medium → O → O → Type 0
RecoveryCarries takes result old new outlet outlet' =
    (m : Module) (config : Settings) (promise : Promise) (crashed : DiskImage)
    → new.crash_images crashed → KeepsPromise m config promise old → KeepsBounds promise.events old
    → (told : List Begun) × Releases takes outlet told outlet'
    × ((inputs : Inputs) → IsForetold (at_first inputs) (map Tells told)
    → ReopensOrNot m config promise inputs told result old new)
