-- The turns of a batch of a worker on its disk: a slice in which lines may wait.
use Rattle.std.specs.Prelude.{◌≡◌, ◌≢◌, ℕ, ◌⊎◌, ◌+◌, ◌-◌, ◌*◌, ◌≤◌, true, false, List, [], ◌∷◌}
use Rattle.std.specs.Prelude.{◌++◌, length, map, Result, Ok, Err, Bool, None, IfOk, IfErr}
use Rattle.wasm_syntax.specs.declared.module.Module.{Module}
use Rattle.wasi_abi.specs.declared.answer.Question.{Question}
use Rattle.wasi_abi.specs.rules.Configs.{Settings}
use Rattle.process_rules.specs.Processes.{ProcessState, Guest}
use Rattle.process.specs.rules.Values.{ProcessValue, ShowsProcess, waiting_in}
use Rattle.sector_disk.specs.rules.Medium.{Medium}
use Rattle.record_replay.specs.declared.fault.OutletFault.{OutletFault}
use Rattle.record_replay.specs.declared.line_list.NumberedLine.{NumberedLine}
use Rattle.record_replay.specs.rules.Calls.{Giving, Taking, Begun, Exchange, Releases, Exchanges}
use Rattle.record_replay.specs.rules.Calls.{ports}
use Rattle.record_replay.specs.rules.Waiting.{ReleasesAll}
use Rattle.worker_store.specs.restart_theorem.Lives.{Act, Reply}
use Rattle.worker_store.specs.restart_theorem.Courses.{Stage, IsInBatch}
use Rattle.worker_store.specs.restart_theorem.Promises.{Promise, fuel_of}
use Rattle.worker_store.specs.restart_theorem.Holds.{StaysWithin}
use Rattle.worker_store.specs.declared.fault.StoreFault.{StoreFault}
use Rattle.worker_store.specs.declared.fault.StoreFault.TheVariants as store
use Rattle.worker_store.specs.declared.store.WorkerStore.{WorkerStore}
use Rattle.worker_store.specs.laws.Underway.{IsUnderWay, HasLinesLeft}
use Rattle.worker_store.specs.laws.Pieces.{AreDone}
use Rattle.worker_store.specs.laws.Turns.{GoesOnFrom}
use Rattle.worker_store.specs.rules.BetweenCalls.{IsForetold}
use Rattle.record_replay.specs.declared.slices.now.Now.{Now}
use Rattle.record_replay.specs.declared.slices.now.Now.TheVariants as now
use Rattle.record_replay.specs.declared.slices.fault.SliceFault.TheVariants as slice
use Rattle.record_replay.specs.rules.Faults.{Fails as GoesAndFails}
use Rattle.record_replay.specs.rules.Slices.{Slices}
use Rattle.record_replay.specs.Turns.{working, failing}
use Rattle.worker.specs.declared.fault.WorkFault.{WorkFault}
use Rattle.worker.specs.declared.fault.WorkFault.TheVariants.{Work}
use Rattle.worker.specs.declared.running_worker.RunningWorker.{RunningWorker}
use Rattle.worker.specs.rules.Batches.{keeping, taking, StopsBatch, IsBatchCause, BatchFails}
use Rattle.worker.specs.rules.CallCounts.{most_calls, CallsForEvents}
use Rattle.worker.specs.rules.WorkFaults.{fault_of_store}
use Rattle.worker.specs.rules.DurableCalls.{IsReplyOf}
use Rattle.worker.specs.StoreTurns.{owed, HasTurnCause, PaysCalls, StoreGoes, StoreStops}
use Rattle.worker.specs.rules.Scenes.{SceneOf, scene, ports_of}
use Rattle.worker.specs.DurableTurns.{Course, Running, running_on, IsWithinAct, IsBetweenTurns}
use Rattle.worker.specs.DurableTurns.{IsAskingOn, TurnGoes, TurnEnds, TurnFails, told_lines_of}
use Rattle.worker.specs.DurableTurns.{to_tell, HoldsNoLine, AsksOutside, IsAskFault}

-- ---- lines to an outlet

-- some of these releases were made, and the last of them was refused
abbrev pub RefusesOne : {O : Type 0} → Taking O → List Begun → O → O → Type 0
RefusesOne takes all outlet outlet' = (front : List Begun) × (last : Begun) × (back : List Begun)
    × (fault : OutletFault) × (all ≡ front ++ (last ∷ back))
    × Releases takes outlet (front ++ (record last { said = Err fault } ∷ [])) outlet'

-- lines that were held were released, and then those that waited
abbrev pub TellsAll : {O : Type 0} → Taking O → List Begun → ProcessValue → ProcessValue
    → O → O → Type 0
TellsAll {O} takes lines_held old new outlet outlet' = (mid : O)
    × Releases takes outlet lines_held mid × ReleasesAll takes old new mid outlet'

-- why a barrier fails
abbrev pub IsBarrierFault : WorkerStore → StoreFault → Type 0
IsBarrierFault kept store.Full = Unit {0}
IsBarrierFault kept (store.Disk why) = Unit {0}
IsBarrierFault kept store.Failed = kept.journal.has_failed ≡ true
IsBarrierFault kept other = ⊥

-- the store failed, or the outlet refused one of them
abbrev pub TellsVainly : {O : Type 0} → Taking O → List Begun → RunningWorker → WorkFault
    → ProcessValue → O → O → Type 0
TellsVainly takes lines_held old why new outlet outlet' =
    ((fault : StoreFault) × (why ≡ fault_of_store fault) × IsBarrierFault old.store fault
    × (new ≡ old.process) × (outlet' ≡ outlet))
    ⊎ ((why ≡ Work slice.Outlet) × (new ≡ old.process)
    × RefusesOne takes (to_tell lines_held old.process) outlet outlet')

-- ---- lines that are still to be told

-- An act that takes steps is under way, or the last question of a batch has ended it. So many of
-- the lines were told, and others may be told.
abbrev pub MayTell : Module → Settings → Guest → Promise → Stage → Act → ℕ → ProcessState → Type 0
MayTell m config guest promise stage act told p = IsUnderWay m config guest promise stage act told p
    ⊎ HasLinesLeft m config guest promise stage act told p

-- one within a slice or a batch, or behind the last question of a batch
abbrev pub IsTellingOn : Course → Promise → Stage → ProcessState → ℕ → ℕ → Running → Type 0
IsTellingOn = IsWithinAct MayTell

-- something may be owed for the last step
abbrev pub IsTellingTurn : Course → Promise → Stage → ProcessState → List Begun → RunningWorker
    → Medium → Type 0
IsTellingTurn c promise stage p lines_held w disk =
    IsTellingOn c promise stage p (p.steps - 1) promise.events (running_on lines_held w disk)

-- nothing is owed
abbrev pub IsToldTurn : Course → Promise → Stage → ProcessState → List Begun → RunningWorker
    → Medium → Type 0
IsToldTurn c promise stage p lines_held w disk =
    IsTellingOn c promise stage p p.steps promise.events (running_on lines_held w disk)

-- all lines were told, by these exchanges, and the process is where it was
pub record TurnTells (c : Course) (promise : Promise) (stage : Stage) (p : ProcessState)
    (exchanges : List Exchange) (w : RunningWorker) (disk disk' : Medium) : Type 0 where
  pub promise' : Promise
  pub stage' : Stage
  pub done : AreDone c.code c.config promise stage exchanges promise' stage'
  pub onward : GoesOnFrom c.code c.config promise promise' disk disk'
  pub bounded : StaysWithin promise'.events disk disk'
  pub telling : IsToldTurn c promise' stage' p [] w disk'
  pub phase : stage'.phase ≡ stage.phase

-- the records were put on the disk, and all these lines were released
abbrev pub FlushesAll : List Begun → RunningWorker → RunningWorker → Medium → Medium → Type 0
FlushesAll lines_held old new disk disk' =
    (c : Course) (promise : Promise) (stage : Stage) (p : ProcessState)
    → IsTellingTurn c promise stage p lines_held old disk
    → IsForetold stage (told_lines_of (to_tell lines_held old.process))
    → TurnTells c promise stage p (told_lines_of (to_tell lines_held old.process)) new disk disk'

-- one of the two failed
abbrev pub FlushesNot : {D S O : Type 0} → (D → Medium) → Taking O → List Begun
    → SceneOf RunningWorker D S O → WorkFault → SceneOf RunningWorker D S O → Type 0
FlushesNot medium takes lines_held before why after = (begun : List Begun)
    × Releases takes before.outlet begun after.outlet
    × ((c : Course) (promise : Promise) (stage : Stage) (p : ProcessState)
    → IsTellingTurn c promise stage p lines_held before.worker (medium before.disk)
    → IsForetold stage (told_lines_of begun)
    → TurnFails c promise stage why (told_lines_of begun) after.worker (medium before.disk)
    (medium after.disk))

-- ---- what stops a batch

-- It has stopped for this reason, and lines may still be held. Once these are told, and nothing
-- else has changed, it ends so.
pub record IsStopped {D : Type 0} (medium : D → Medium) (c : Course) (promise : Promise)
    (stage : Stage) (p : ProcessState) (result : Result Now WorkFault) (reply : Reply)
    (here : Running) : Type 0 where
  pub telling : IsToldTurn c promise stage p here.lines_held here.worker here.disk
  pub is_reply : IsReplyOf result reply
  pub ends : (promise' : Promise) (stage' : Stage) (w' : RunningWorker) (disk' : D)
      → IsToldTurn c promise' stage' p [] w' (medium disk') → stage'.phase ≡ stage.phase
      → waiting_in w'.process ≡ [] → w'.is_abreast ≡ here.worker.is_abreast
      → TurnEnds c promise' stage' reply [] w' (medium disk') (medium disk')

-- there is such a process, and such a reply
abbrev pub StopsAt : {D : Type 0} → (D → Medium) → Result Now WorkFault → Running → Course
    → Promise → Stage → Type 0
StopsAt medium result here c promise stage = (p : ProcessState) × (reply : Reply)
    × IsStopped medium c promise stage p result reply here

-- A part of a batch has led on by these exchanges, and it is so then.
pub record TurnComes (c : Course) (promise : Promise) (stage : Stage) (exchanges : List Exchange)
    (disk disk' : Medium) (State : Promise → Stage → Type 0) : Type 0 where
  pub promise' : Promise
  pub stage' : Stage
  pub done : AreDone c.code c.config promise stage exchanges promise' stage'
  pub onward : GoesOnFrom c.code c.config promise promise' disk disk'
  pub bounded : StaysWithin promise'.events disk disk'
  pub state : State promise' stage'

-- ---- what is asked

-- What becomes of a batch by a question. An answer goes on. None, and a fault of the source, stop
-- it. Any other fault fails it.
abbrev pub AsksOn : {D : Type 0} → (D → Medium) → Result Bool WorkFault → Course → Promise → Stage
    → List Exchange → Medium → Running → Type 0
AsksOn medium (Ok true) c promise stage exchanges disk there =
    TurnGoes c promise stage exchanges there.lines_held there.worker disk there.disk
AsksOn medium (Ok false) c promise stage exchanges disk there =
    TurnComes c promise stage exchanges disk there.disk (StopsAt medium (Ok now.Waiting) there c)
AsksOn medium (Err (Work slice.Source)) c promise stage exchanges disk there =
    TurnComes c promise stage exchanges disk there.disk
    (StopsAt medium (Err (Work slice.Source)) there c)
AsksOn medium (Err why) c promise stage exchanges disk there =
    TurnFails c promise stage why exchanges there.worker disk there.disk

-- the source was asked, unless it is another fault
abbrev pub AsksOne : Result Bool WorkFault → List Exchange → Type 0
AsksOne (Ok is_there) exchanges = length exchanges ≡ 1
AsksOne (Err (Work slice.Source)) exchanges = length exchanges ≡ 1
AsksOne (Err why) exchanges = Unit {0}

-- It wasn't asked, or in vain. Then the store may have been made to fail.
abbrev pub AsksThenFails : {S : Type 0} → Giving S → RunningWorker → Question → WorkFault
    → RunningWorker → S → S → Type 0
AsksThenFails gives old question why new source source' = (heard : RunningWorker)
    × (new.process ≡ heard.process) × IsAskFault gives old question why heard source source'

-- room is made, and the source is asked, where lines are held
abbrev pub AsksHolding : {D S O : Type 0} → (D → Medium) → Giving S → Question
    → SceneOf RunningWorker D S O → Result Bool WorkFault → SceneOf RunningWorker D S O → Type 0
AsksHolding medium gives question before result after = (exchanges : List Exchange)
    × AsksOutside gives question exchanges before.source after.source × AsksOne result exchanges
    × ((c : Course) (promise : Promise) (stage : Stage) (p : ProcessState) (lines_held : List Begun)
    → IsAskingOn c promise stage p question promise.events
    (running_on lines_held before.worker (medium before.disk))
    → IsInBatch stage.acts → HoldsNoLine lines_held before.worker → IsForetold stage exchanges
    → AsksOn medium result c promise stage exchanges (medium before.disk)
    (running_on lines_held after.worker (medium after.disk)))

-- ---- the parts of a batch

-- no line may be told any more: one was refused, or the store has failed
abbrev pub HasEnded : WorkFault → RunningWorker → Type 0
HasEnded why w = (why ≡ Work slice.Outlet) ⊎ (w.store.journal.has_failed ≡ true)

-- the lines that are held, as releases
abbrev pub held_as_begun : List NumberedLine → List Begun
held_as_begun lines = map taking lines

-- a worker that runs, and the lines that wait in its queue
pub record Holding : Type 0 where
  pub running : RunningWorker
  pub lines : List NumberedLine

-- of these
abbrev pub holding : RunningWorker → List NumberedLine → Holding
holding running lines = record { running = running; lines = lines }

-- all lines were told, and none is held
abbrev pub TellsQueue : {D S O : Type 0} → (D → Medium) → Taking O → SceneOf Holding D S O
    → SceneOf Holding D S O → Type 0
TellsQueue medium takes before after = (after.worker.lines ≡ [])
    × TellsAll takes (held_as_begun before.worker.lines) before.worker.running.process
    after.worker.running.process before.outlet after.outlet
    × FlushesAll (held_as_begun before.worker.lines) before.worker.running after.worker.running
    (medium before.disk) (medium after.disk)

-- some lines may have been told, and then it failed
abbrev pub FailsQueue : {D S O : Type 0} → (D → Medium) → Taking O → SceneOf Holding D S O
    → WorkFault → SceneOf RunningWorker D S O → Type 0
FailsQueue medium takes before why after = HasEnded why after.worker
    × TellsVainly takes (held_as_begun before.worker.lines) before.worker.running why
    after.worker.process before.outlet after.outlet
    × FlushesNot medium takes (held_as_begun before.worker.lines)
    (scene before.worker.running before.disk before.source before.outlet) why after

-- the lines that waited are held, no more of them than may be
pub record HoldsLines (most : ℕ) (old new : Holding) : Type 0 where
  pub some : waiting_in old.running.process ≢ []
  pub unended : old.running.process.ended ≡ None
  pub holds : ReleasesAll keeping old.running.process new.running.process old.lines new.lines
  pub few : length new.lines ≤ most - 1
  pub same_store : new.running.store ≡ old.running.store
  pub same_says : new.running.is_abreast ≡ old.running.is_abreast

-- they are held, or told
abbrev pub HoldsOrTells : {D S O : Type 0} → (D → Medium) → Taking O → ℕ → SceneOf Holding D S O
    → SceneOf Holding D S O → Type 0
HoldsOrTells medium takes most before after =
    (HoldsLines most before.worker after.worker × (after.disk ≡ before.disk)
    × (after.outlet ≡ before.outlet))
    ⊎ TellsQueue medium takes before after

-- nothing is done where the source may be asked, or all lines are told
abbrev pub FreesOrTells : {D S O : Type 0} → (D → Medium) → Taking O → SceneOf Holding D S O
    → SceneOf Holding D S O → Type 0
FreesOrTells medium takes before after =
    (HoldsNoLine (held_as_begun before.worker.lines) before.worker.running × (after ≡ before))
    ⊎ TellsQueue medium takes before after

-- none is left to be told, or none may be
abbrev pub IsToldAlready : Result Now WorkFault → List NumberedLine → RunningWorker → Type 0
IsToldAlready result lines w = (lines ≡ []) ⊎ ((result ≡ Err (Work slice.Outlet))
    ⊎ (w.store.journal.has_failed ≡ true))

-- lines may be told
abbrev pub MayTellRest : Result Now WorkFault → RunningWorker → Type 0
MayTellRest result w = (result ≢ Err (Work slice.Outlet)) × (w.store.journal.has_failed ≡ false)

-- what is left is told, behind all turns
abbrev pub TellsRest : {D S O : Type 0} → (D → Medium) → Taking O → Result Now WorkFault
    → SceneOf Holding D S O → Result Now WorkFault → SceneOf RunningWorker D S O → Type 0
TellsRest medium takes worked before result after =
    (IsToldAlready worked before.worker.lines before.worker.running × (result ≡ worked)
    × (after.worker ≡ before.worker.running) × (after.disk ≡ before.disk)
    × (after.outlet ≡ before.outlet))
    ⊎ ((MayTellRest worked before.worker.running × (result ≡ worked)
    × (after.worker.is_abreast ≡ before.worker.running.is_abreast)
    × TellsQueue medium takes before
    (scene (holding after.worker []) after.disk after.source after.outlet)
    × StoreGoes before.worker.running.store after.worker.store (medium before.disk)
    (medium after.disk)
    × PaysCalls {T = Unit {0}} (Ok tt) before.worker.running.store after.worker.store
    (medium before.disk) (medium after.disk))
    ⊎ (MayTellRest worked before.worker.running × (why : WorkFault) × (result ≡ Err why)
    × FailsQueue medium takes before why after
    × StoreStops before.worker.running.store after.worker.store why (medium before.disk)
    (medium after.disk)
    × PaysCalls {T = Unit {0}} (Err why) before.worker.running.store after.worker.store
    (medium before.disk) (medium after.disk)))

-- ---- a batch

-- A batch that has stopped, with all lines in a list. Whichever process was shown has gone on to
-- one that is then shown, as where lines go to a list. It stops before a step, where all its lines
-- are in the list.
pub record StopsInBatch {S : Type 0} (gives : Giving S) (old : ProcessValue) (fuel : ℕ)
    (result : Result Now WorkFault) (new : ProcessValue) (source source' : S)
    (kept : List NumberedLine) : Type 0 where
  pub none_waits : waiting_in new ≡ []
  pub done : IfOk result (λ now. Slices gives keeping (working old) fuel now (working new)
      (ports source []) (ports source' kept))
  pub shown : (guest : Guest) (p : ProcessState) → ShowsProcess old guest p
      → (fails : GoesAndFails gives keeping (working old) (failing new) guest p (ports source [])
      (ports source' kept))
      × ((fails.steps ≤ fuel) × StopsBatch guest p fails.exchanges fails.steps fails.process)
      × IfErr result (λ why. IsBatchCause guest p fuel fails.exchanges fails.steps
      fails.process why)

-- Calls of the disk, as of slices: what a barrier still takes is counted with those so far.
abbrev pub PaidSoFar : ℕ → RunningWorker → Medium → Medium → Type 0
PaidSoFar exchanges w disk disk' = disk'.counted + owed disk.sectors w.store.journal.kept
    ≤ disk.counted + disk.sectors + exchanges * most_calls disk.sectors

-- what a batch begins with
pub record BeginsBatch (c : Course) (promise : Promise) (stage : Stage) (p : ProcessState)
    (batch : Act) (w : RunningWorker) (disk : Medium) : Type 0 where
  pub act : c.act ≡ batch
  pub first : c.first ≡ w.process.steps
  pub between : IsBetweenTurns c promise stage p [] w disk

-- it has failed, and no line is told any more
abbrev pub EndsBatch : {D S O : Type 0} → (D → Medium) → Giving S → Taking O → Act
    → SceneOf RunningWorker D S O → WorkFault → List Exchange → SceneOf Holding D S O → Type 0
EndsBatch medium gives takes act before why exchanges after = HasEnded why after.worker.running
    × ((c : Course) (promise : Promise) (stage : Stage) (p : ProcessState)
    → BeginsBatch c promise stage p act before.worker (medium before.disk)
    → IsForetold stage exchanges
    → TurnFails c promise stage why exchanges after.worker.running (medium before.disk)
    (medium after.disk))
    × CallsForEvents (length exchanges + 1) (medium before.disk) (medium after.disk)
    × BatchFails gives takes before.worker.process (fuel_of act) why after.worker.running.process
    (ports_of before) (ports_of after)
    × StoreStops before.worker.store after.worker.running.store why (medium before.disk)
    (medium after.disk)

-- it has stopped, and its lines are held
abbrev pub LeavesBatch : {D S O : Type 0} → (D → Medium) → Giving S → Taking O → Act
    → SceneOf RunningWorker D S O → Result Now WorkFault → List Exchange → SceneOf Holding D S O
    → Type 0
LeavesBatch {D} medium gives takes act before result exchanges after =
    (result ≢ Err (Work slice.Outlet))
    × ((c : Course) (promise : Promise) (stage : Stage) (p : ProcessState)
    → BeginsBatch c promise stage p act before.worker (medium before.disk)
    → IsForetold stage exchanges
    → TurnComes c promise stage exchanges (medium before.disk) (medium after.disk)
    (StopsAt medium result (running_on (held_as_begun after.worker.lines) after.worker.running
    (medium after.disk)) c))
    × PaidSoFar (length exchanges) after.worker.running (medium before.disk) (medium after.disk)
    × ((told : List NumberedLine) × Releases takes before.outlet (held_as_begun told) after.outlet
    × StopsInBatch gives before.worker.process (fuel_of act) result after.worker.running.process
    before.source after.source (told ++ after.worker.lines))
    × StoreGoes before.worker.store after.worker.running.store (medium before.disk)
    (medium after.disk)
    × IfErr result (λ why. (later : D)
    → HasTurnCause before.worker.store (medium before.disk) (medium later) why)

-- all turns of a batch, which is this act
abbrev pub WorksInBatch : {D S O : Type 0} → (D → Medium) → Giving S → Taking O → Act
    → SceneOf RunningWorker D S O → Result Now WorkFault → SceneOf Holding D S O → Type 0
WorksInBatch medium gives takes act before result after = (exchanges : List Exchange)
    × Exchanges gives takes before.source before.outlet exchanges after.source after.outlet
    × (((why : WorkFault) × (result ≡ Err why)
    × EndsBatch medium gives takes act before why exchanges after)
    ⊎ LeavesBatch medium gives takes act before result exchanges after)
