-- The turns of a slice of a worker on its disk.
use Rattle.std.specs.Prelude.{◌≡◌, ◌≢◌, ℕ, ◌⊎◌, ◌+◌, ◌-◌, ◌<◌, ◌≤◌, Bool, true, false, List, []}
use Rattle.std.specs.Prelude.{◌∷◌, ◌++◌, suc, drop, length, map, Some, None, Result, Ok, Err}
use Rattle.wasm_syntax.specs.declared.module.Module.{Module}
use Rattle.wasi_abi.specs.declared.answer.Question.{Question}
use Rattle.wasi_abi.specs.rules.Configs.{Settings}
use Rattle.wasi_calls_rules.specs.laws.Laws.{IsOfBytes}
use Rattle.process_rules.specs.Processes.{ProcessState, Guest, host_of}
use Rattle.process_rules.specs.Runs.{Wants, next_of}
use Rattle.wasi_abi.specs.rules.Answers.{Fits}
use Rattle.wasi_abi.specs.rules.Versions.{text_limit}
use Rattle.process.specs.declared.fault.ProcessFault.{ProcessFault}
use Rattle.process.specs.rules.Values.{ProcessValue, ShowsProcess, IsProcess, waiting_in}
use Rattle.process.specs.rules.Stops.{GivesAnswer}
use Rattle.disk_layout.specs.rules.Journal.{Record, record_bytes, longest_record}
use Rattle.journal.specs.rules.Steps.{RecordFits}
use Rattle.worker_store.specs.declared.fault.StoreFault.{StoreFault}
use Rattle.worker_store.specs.declared.fault.StoreFault.TheVariants as store
use Rattle.record_replay.specs.rules.Waiting.{ReleasesSome, first_waiting}
use Rattle.worker_store.specs.rules.Stores.{with_record}
use Rattle.worker_store.specs.rules.Calls.{AppendFails}
use Rattle.sector_disk.specs.rules.Medium.{Medium}
use Rattle.state_image.specs.rules.Saving.{saved_of}
use Rattle.journal.specs.rules.State.{room_of}
use Rattle.record_replay.specs.rules.Calls.{Giving, Taking, Begun, Exchange, Asks, Tells}
use Rattle.record_replay.specs.rules.Calls.{Releases, Exchanges, all_taken}
use Rattle.worker_store.specs.restart_theorem.Lives.{Act, Slice, Reply, Fails, Waits, Cause}
use Rattle.worker_store.specs.restart_theorem.Lives.{SourceSaid, Ended}
use Rattle.worker_store.specs.restart_theorem.Courses.{Stage, Open, phase_ended, next_stage}
use Rattle.worker_store.specs.restart_theorem.Promises.{Promise, after, fuel_of, IsEnding}
use Rattle.worker_store.specs.restart_theorem.Holds.{KeepsPromise, StaysWithin}
use Rattle.worker_store.specs.laws.Acts.{most_held}
use Rattle.worker_store.specs.laws.Underway.{IsUnderWay}
use Rattle.worker_store.specs.rules.BetweenCalls.{IsForetold}
use Rattle.worker_store.specs.laws.Pieces.{AreDone}
use Rattle.worker_store.specs.laws.Turns.{GoesOnFrom}
use Rattle.record_replay.specs.declared.slices.now.Now.{Now}
use Rattle.record_replay.specs.declared.slices.fault.SliceFault.TheVariants as slice
use Rattle.worker.specs.declared.fault.WorkFault.{WorkFault}
use Rattle.worker.specs.declared.fault.WorkFault.TheVariants.{Work}
use Rattle.worker.specs.rules.CallCounts.{CallsForEvents}
use Rattle.worker.specs.rules.WorkFaults.{fault_of_store}
use Rattle.record_replay.specs.rules.Refusals.{slice_fault}
use Rattle.worker.specs.declared.running_worker.RunningWorker.{RunningWorker}
use Rattle.worker.specs.rules.DurableValues.{durable_of}
use Rattle.worker.specs.rules.OpenWorkers.{Identity, identity, IsOnDisk, IsAbreast, IsOpenOn}
use Rattle.worker.specs.rules.DurableCalls.{ComesOf, IsReplyOf}
use Rattle.worker.specs.rules.Scenes.{SceneOf, scene}

-- ---- within a slice

-- what a slice is of, by which act of a life, and at which step it began
pub record Course : Type 0 where
  pub code : Module
  pub config : Settings
  pub guest : Guest
  pub act : Act
  pub first : ℕ

-- a worker that runs, with its disk, and the lines that it has handed over and that aren't told
pub record Running : Type 1 where
  pub lines_held : List Begun
  pub worker : RunningWorker
  pub disk : Medium

-- of these
abbrev pub running_on : List Begun → RunningWorker → Medium → Running
running_on lines_held w disk = record { lines_held = lines_held; worker = w; disk = disk }

-- the scene of a call that tells no line
abbrev pub asking_scene : {W D S : Type 0} → W → D → S → SceneOf W D S (Unit {0})
asking_scene worker disk source = scene worker disk source tt

-- the scene of a call that asks nothing
abbrev pub telling_scene : {W D O : Type 0} → W → D → O → SceneOf W D (Unit {0}) O
telling_scene worker disk outlet = scene worker disk tt outlet

-- which worker it is of
abbrev pub identity_of : Course → Identity
identity_of c = identity c.code c.config c.guest

-- These releases are still to be made: of lines that are held, and then of those that wait.
abbrev pub to_tell : List Begun → ProcessValue → List Begun
to_tell lines_held v = lines_held ++ all_taken (first_waiting v) (waiting_in v)

-- A worker within an act, which has come to p. Lines that it has handed over are held, and so many
-- before them were told, as May says. The disk holds what is promised, the guest's syncs up to this
-- step included, by a savepoint of this generation at most.
pub record IsWithinAct (May : Module → Settings → Guest → Promise → Stage → Act → ℕ → ProcessState
    → Type 0) (c : Course) (promise : Promise) (stage : Stage) (p : ProcessState)
    (step latest : ℕ) (here : Running) : Type 0 where
  pub opened : promise.has_opened ≡ true
  pub texts : IsOfBytes (host_of c.config)
  pub shows : ShowsProcess here.worker.process c.guest p
  pub module_is : here.worker.process.machine.guest ≡ c.code
  pub told : ℕ
  pub counted : told + length here.lines_held ≡ here.worker.process.host.released
  pub queued : to_tell here.lines_held here.worker.process
      ≡ all_taken (suc told) (drop told p.host.lines)
  pub way : May c.code c.config c.guest promise stage c.act told p
  pub began : stage.step ≡ c.first
  pub on_disk : IsOnDisk (identity_of c) promise p step latest here.worker.store here.disk
  pub synced : promise.synced ≤ p.steps
  pub abreast : IsAbreast promise stage p here.worker.is_abreast

-- one within a slice, which runs
abbrev pub IsRunningOn : Course → Promise → Stage → ProcessState → ℕ → ℕ → Running → Type 0
IsRunningOn = IsWithinAct IsUnderWay

-- between two turns
abbrev pub IsBetweenTurns : Course → Promise → Stage → ProcessState → List Begun → RunningWorker
    → Medium → Type 0
IsBetweenTurns c promise stage p lines_held w disk =
    IsRunningOn c promise stage p p.steps promise.events (running_on lines_held w disk)

-- something may be owed for the last step
abbrev pub IsOwingTurn : Course → Promise → Stage → ProcessState → List Begun → RunningWorker
    → Medium → Type 0
IsOwingTurn c promise stage p lines_held w disk =
    IsRunningOn c promise stage p (p.steps - 1) promise.events (running_on lines_held w disk)

-- The next step wants an answer. No more lines are held than may.
pub record IsAskingOn (c : Course) (promise : Promise) (stage : Stage) (p : ProcessState)
    (question : Question) (latest : ℕ) (here : Running) : Type 0 where
  pub running : IsRunningOn c promise stage p p.steps latest here
  pub few : length here.lines_held ≤ most_held c.act
  pub none_waits : waiting_in here.worker.process ≡ []
  pub unended : p.ended ≡ None
  pub wants : next_of c.guest p None ≡ Wants question
  pub room : p.steps < stage.step + fuel_of c.act

-- ---- what a turn does

-- it goes on, by these exchanges
pub record TurnGoes (c : Course) (promise : Promise) (stage : Stage) (exchanges : List Exchange)
    (lines_held : List Begun) (w : RunningWorker) (disk disk' : Medium) : Type 0 where
  pub promise' : Promise
  pub stage' : Stage
  pub process : ProcessState
  pub done : AreDone c.code c.config promise stage exchanges promise' stage'
  pub onward : GoesOnFrom c.code c.config promise promise' disk disk'
  pub bounded : StaysWithin promise'.events disk disk'
  pub running : IsBetweenTurns c promise' stage' process lines_held w disk'

-- what is promised at its end, by whichever act that takes steps
abbrev pub slice_end : Promise → Reply → ℕ → RunningWorker → Promise
slice_end promise reply held w = after promise (Ended (Slice 0) reply held (saved_of w.process))

-- it ends the slice, by these exchanges
pub record TurnEnds (c : Course) (promise : Promise) (stage : Stage) (reply : Reply)
    (exchanges : List Exchange) (w : RunningWorker) (disk disk' : Medium) : Type 0 where
  pub between : Promise
  pub inside : Stage
  pub held : ℕ
  pub done : AreDone c.code c.config promise stage exchanges between inside
  pub ending : IsEnding c.code c.config between inside (record {
    act = c.act;
    reply = reply;
    held = held;
    shown = saved_of w.process;
  })
  pub onward : GoesOnFrom c.code c.config promise (slice_end between reply held w) disk
      disk'
  pub bounded : StaysWithin (slice_end between reply held w).events disk disk'
  pub keeps : KeepsPromise c.code c.config (slice_end between reply held w) disk'
  pub goes_on : phase_ended reply ≡ Open → (replayed : ℕ) → (q : ProcessState)
      × IsOpenOn c.code c.config c.guest (slice_end between reply held w)
      (next_stage inside (Ended c.act reply held (saved_of w.process))) q
      (durable_of w replayed) disk'

-- an error ends it
abbrev pub TurnFails : Course → Promise → Stage → WorkFault → List Exchange → RunningWorker → Medium
    → Medium → Type 0
TurnFails c promise stage why exchanges w disk disk' = (cause : Cause) × ComesOf why cause
    × TurnEnds c promise stage (Fails cause) exchanges w disk disk'

-- ---- what is owed

-- the lines of a turn, as exchanges
abbrev pub told_lines_of : List Begun → List Exchange
told_lines_of begun = map Tells begun

-- these exchanges were made, and the slice goes on, or an error ends it
abbrev pub TurnLeads : Result (Unit {0}) WorkFault → Course → Promise → Stage → List Exchange
    → RunningWorker → Medium → Medium → Type 0
TurnLeads (Ok done) c promise stage exchanges w disk disk' =
    TurnGoes c promise stage exchanges [] w disk disk'
TurnLeads (Err why) c promise stage exchanges w disk disk' =
    TurnFails c promise stage why exchanges w disk disk'

-- The records are put on the disk, and then the lines that waited are released, up to an error.
abbrev pub FlushesTurn : {O : Type 0} → Taking O → RunningWorker → Result (Unit {0}) WorkFault
    → RunningWorker → Medium → Medium → O → O → Type 0
FlushesTurn takes old result new disk disk' outlet outlet' = (begun : List Begun)
    × Releases takes outlet begun outlet'
    × ((c : Course) (promise : Promise) (stage : Stage) (p : ProcessState)
    → IsOwingTurn c promise stage p [] old disk → IsForetold stage (told_lines_of begun)
    → TurnLeads result c promise stage (told_lines_of begun) new disk disk')

-- the store failed, which wants no memory and no number; or the outlet did
abbrev pub IsFlushFault : {O : Type 0} → Taking O → ProcessValue → WorkFault → ProcessValue
    → O → O → Type 0
IsFlushFault takes old why new outlet outlet' =
    ((fault : StoreFault) × (why ≡ fault_of_store fault) × (fault ≢ store.Memory)
    × (fault ≢ store.TooBig) × (new ≡ old) × (outlet' ≡ outlet))
    ⊎ ((why ≡ Work slice.Outlet) × ReleasesSome takes old new outlet outlet')

-- ---- what is asked

-- an error of the store
abbrev pub IsOfStoreFault : WorkFault → Type 0
IsOfStoreFault why = (fault : StoreFault) × (why ≡ fault_of_store fault)

-- there is room in the journal for any record of its version
abbrev pub HasRoom : RunningWorker → Type 0
HasRoom w = longest_record w.store.journal.version ≤ room_of w.store.geometry w.store.journal

-- none is held, or the journal has room for any answer
abbrev pub HoldsNoLine : List Begun → RunningWorker → Type 0
HoldsNoLine lines_held w = (lines_held ≡ []) ⊎ HasRoom w

-- The disk has room for the answer. It may be one generation on, but not over lines that are held:
-- the question comes next.
abbrev pub MakesRoom : RunningWorker → RunningWorker → Medium → Medium → Type 0
MakesRoom old new disk disk' =
    (c : Course) (promise : Promise) (stage : Stage) (p : ProcessState) (question : Question)
    (lines_held : List Begun)
    → IsAskingOn c promise stage p question promise.events (running_on lines_held old disk)
    → HoldsNoLine lines_held old
    → IsAskingOn c promise stage p question (promise.events + 1)
    (running_on lines_held new disk')
    × HasRoom new × GoesOnFrom c.code c.config promise promise disk disk'
    × StaysWithin (promise.events + 1) disk disk'

-- there is none
abbrev pub MakesNoRoom : RunningWorker → WorkFault → RunningWorker → Medium → Medium → Type 0
MakesNoRoom old why new disk disk' =
    (c : Course) (promise : Promise) (stage : Stage) (p : ProcessState) (question : Question)
    (lines_held : List Begun)
    → IsAskingOn c promise stage p question promise.events (running_on lines_held old disk)
    → HoldsNoLine lines_held old → TurnFails c promise stage why [] new disk disk'

-- a question, with what the source said to it
abbrev pub asks_once : Question → SourceSaid → List Exchange
asks_once question said = Asks (record { question = question; said = said }) ∷ []

-- an answer that fits was kept on record, and the process has taken it
pub record TakesOnRecord (old : RunningWorker) (question : Question) (r : Record)
    (new : RunningWorker) : Type 0 where
  pub fits : Fits (text_limit old.process.host.host.version) question r.answer
  pub appended : new.store ≡ with_record old.store r
  pub record_fits : RecordFits old.store.journal.version r
  pub room : length (record_bytes old.store.journal.version r)
      ≤ room_of old.store.geometry old.store.journal
  pub given : GivesAnswer old.process r.answer (Ok tt) new.process
  pub some : IsProcess new.process
  pub abreast_same : new.is_abreast ≡ old.is_abreast
  pub released_same : new.process.host.released ≡ old.process.host.released
  pub guest_same : new.process.machine.guest ≡ old.process.machine.guest

-- an answer that fits isn't kept on record
pub record LacksRecord (old : RunningWorker) (question : Question) (r : Record) (why : WorkFault)
    (new : RunningWorker) : Type 0 where
  pub fits : Fits (text_limit old.process.host.host.version) question r.answer
  pub fault : StoreFault
  pub fails : AppendFails old.store r fault
  pub is : why ≡ fault_of_store fault
  pub same : new.process ≡ old.process

-- an answer that fits is one that the process doesn't take
pub record IsNotTaken (old : RunningWorker) (question : Question) (r : Record) (why : WorkFault)
    (new : RunningWorker) : Type 0 where
  pub fits : Fits (text_limit old.process.host.host.version) question r.answer
  pub fault : ProcessFault
  pub given : GivesAnswer old.process r.answer (Err fault) new.process
  pub is : why ≡ Work (slice_fault fault)
  pub appended : new.store ≡ with_record old.store r

-- an answer doesn't fit
pub record IsMisfit (old : RunningWorker) (question : Question) (r : Record) (why : WorkFault)
    (new : RunningWorker) : Type 0 where
  pub misfits : Fits (text_limit old.process.host.host.version) question r.answer → ⊥
  pub is : why ≡ Work slice.Source
  pub same : new ≡ old

-- why it isn't taken on record
abbrev pub TakesNone : RunningWorker → Question → Record → WorkFault → RunningWorker → Type 0
TakesNone old question r why new = IsMisfit old question r why new
    ⊎ (LacksRecord old question r why new ⊎ IsNotTaken old question r why new)

-- what becomes of an answer
abbrev pub HearsAnswer : RunningWorker → Question → Record → Result Bool WorkFault
    → RunningWorker → Type 0
HearsAnswer old question r (Ok is_there) new = (is_there ≡ true) × TakesOnRecord old question r new
HearsAnswer old question r (Err why) new = TakesNone old question r why new

-- what becomes of what the source says to the question before this step
abbrev pub HearsBy : RunningWorker → Question → ℕ → SourceSaid → Result Bool WorkFault
    → RunningWorker → Type 0
HearsBy old question step (Err e) result new = (result ≡ Err (Work slice.Source)) × (new ≡ old)
HearsBy old question step (Ok None) result new = (result ≡ Ok false) × (new ≡ old)
HearsBy old question step (Ok (Some a)) result new =
    HearsAnswer old question (record { step = step; answer = a }) result new

-- the source was asked once
pub record Hears {S : Type 0} (gives : Giving S) (old : RunningWorker)
    (question : Question) (step : ℕ) (result : Result Bool WorkFault) (new : RunningWorker)
    (source source' : S) : Type 0 where
  pub said : SourceSaid
  pub asked : gives source question said source'
  pub hears : HearsBy old question step said result new

-- Whether there was an answer, which the process has taken. Where there was none, the slice is
-- over.
abbrev pub TurnAsks : Course → Promise → Stage → Bool → List Exchange → RunningWorker
    → Medium → Medium → Type 0
TurnAsks c promise stage true exchanges w disk disk' =
    TurnGoes c promise stage exchanges [] w disk disk'
TurnAsks c promise stage false exchanges w disk disk' =
    TurnEnds c promise stage Waits exchanges w disk disk'

-- the source was asked once or not at all
abbrev pub AsksOutside : {S : Type 0} → Giving S → Question → List Exchange → S → S → Type 0
AsksOutside gives question [] source source' = source' ≡ source
AsksOutside gives question (Asks ask ∷ []) source source' =
    (ask.question ≡ question) × gives source ask.question ask.said source'
AsksOutside gives question _ source source' = ⊥

-- room is made, and the source is asked
abbrev pub AsksTurn : {D S O : Type 0} → (D → Medium) → Giving S → Question
    → SceneOf RunningWorker D S O → Result Bool WorkFault → SceneOf RunningWorker D S O → Type 0
AsksTurn medium gives question before (Ok is_there) after = (exchanges : List Exchange)
    × AsksOutside gives question exchanges before.source after.source
    × ((c : Course) (promise : Promise) (stage : Stage) (p : ProcessState)
    → IsAskingOn c promise stage p question promise.events
    (running_on [] before.worker (medium before.disk))
    → IsForetold stage exchanges → TurnAsks c promise stage is_there exchanges after.worker
    (medium before.disk) (medium after.disk))
    × (length exchanges ≡ 1)
AsksTurn medium gives question before (Err why) after = (exchanges : List Exchange)
    × AsksOutside gives question exchanges before.source after.source
    × ((c : Course) (promise : Promise) (stage : Stage) (p : ProcessState)
    → IsAskingOn c promise stage p question promise.events
    (running_on [] before.worker (medium before.disk))
    → IsForetold stage exchanges → TurnFails c promise stage why exchanges after.worker
    (medium before.disk) (medium after.disk))

-- the store failed to make room, and the source wasn't asked; or it was, in vain
abbrev pub IsAskFault : {S : Type 0} → Giving S → RunningWorker → Question → WorkFault
    → RunningWorker → S → S → Type 0
IsAskFault gives old question why new source source' =
    (IsOfStoreFault why × (new.process ≡ old.process) × (source' ≡ source) × (HasRoom old → ⊥))
    ⊎ ((mid : RunningWorker) × (step : ℕ) × (mid.process ≡ old.process)
    × Hears gives mid question step (Err why) new source source')

-- ---- a slice

-- All turns of a slice, or those so far. It is over for this reason, or fails.
abbrev pub WorksOn : {D S O : Type 0} → (D → Medium) → Giving S → Taking O → ℕ
    → SceneOf RunningWorker D S O → Result Now WorkFault → SceneOf RunningWorker D S O → Type 0
WorksOn medium gives takes fuel before result after = (exchanges : List Exchange)
    × Exchanges gives takes before.source before.outlet exchanges after.source after.outlet
    × ((c : Course) (promise : Promise) (stage : Stage) (p : ProcessState) → fuel_of c.act ≡ fuel
    → c.first ≡ before.worker.process.steps
    → IsBetweenTurns c promise stage p [] before.worker (medium before.disk)
    → IsForetold stage exchanges → (reply : Reply) × IsReplyOf result reply
    × TurnEnds c promise stage reply exchanges after.worker (medium before.disk)
    (medium after.disk))
    × CallsForEvents (length exchanges + 1) (medium before.disk) (medium after.disk)
