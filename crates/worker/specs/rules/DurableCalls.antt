-- What a call of a worker on its disk keeps of what was promised (this project's own).
use Rattle.std.specs.Prelude.{◌≡◌, ◌⊎◌, ℕ, ◌+◌, ◌<◌, List, [], ◌∷◌, ◌++◌, length, None, Result}
use Rattle.std.specs.Prelude.{Ok, Err}
use Rattle.wasm_syntax.specs.declared.module.Module.{Module}
use Rattle.wasi_abi.specs.declared.answer.Question.{Question}
use Rattle.wasi_abi.specs.rules.Configs.{Settings}
use Rattle.process_rules.specs.Processes.{ProcessState, Guest}
use Rattle.process_rules.specs.Runs.{Wants, next_of}
use Rattle.process.specs.rules.Values.{ProcessValue, ShowsProcess, ending_of}
use Rattle.process.specs.rules.Stops.{CallsHost}
use Rattle.record_replay.specs.rules.Calls.{Giving, Taking, Exchange, Exchanges}
use Rattle.sector_disk.specs.rules.Medium.{Medium}
use Rattle.state_image.specs.rules.Saving.{saved_of}
use Rattle.disk_layout.specs.rules.Places.{geometry_of}
use Rattle.worker_store.specs.restart_theorem.Lives.{Act, Slice, Batch, Checkpoint, Cause, OfDisk}
use Rattle.worker_store.specs.restart_theorem.Lives.{OfSource, OfAnswer, OfOutlet, OfMemory}
use Rattle.worker_store.specs.restart_theorem.Lives.{OfBounds, OfJournal, OfLines, Reply, Spent}
use Rattle.worker_store.specs.restart_theorem.Lives.{Waits, Over, Done, Fails, Event, Ended}
use Rattle.worker_store.specs.restart_theorem.Lives.Act.{Upgrade as upgrading}
use Rattle.worker_store.specs.restart_theorem.Courses.{Stage, Open, phase_ended, stage_after}
use Rattle.worker_store.specs.restart_theorem.Promises.{Promise, promised, AreKept}
use Rattle.worker_store.specs.restart_theorem.Holds.{CarriesPromise, StaysWithin}
use Rattle.worker_store.specs.restart_theorem.Exchanges.{AreEvents}
use Rattle.worker_store.specs.rules.BetweenCalls.{IsForetold}
use Rattle.worker_store.specs.declared.fault.StoreFault.TheVariants as store
use Rattle.record_replay.specs.declared.slices.now.Now.{Now}
use Rattle.record_replay.specs.declared.slices.now.Now.TheVariants as now
use Rattle.record_replay.specs.declared.slices.fault.SliceFault.TheVariants as slice
use Rattle.record_replay.specs.declared.slices.fault.Refusal.TheVariants as refusal
use Rattle.worker.specs.declared.fault.WorkFault.{WorkFault}
use Rattle.worker.specs.declared.fault.WorkFault.TheVariants.{Work, Disk, Store, Upgrade}
use Rattle.worker.specs.declared.upgrade_fault.UpgradeFault.TheVariants as upgrade
use Rattle.worker.specs.rules.CallCounts.{CallsForEvents}
use Rattle.worker.specs.rules.DurableValues.{DurableValue}
use Rattle.worker.specs.rules.OpenWorkers.{Identity, identity, IsOpenOn}
use Rattle.worker.specs.rules.Scenes.{Scene}

-- ---- what a call answers

-- What an error of an open worker is in a life. A source fails, or hands over what doesn't fit. A
-- number at its end is that of a step, of a line or of a generation. An upgrade may be refused. No
-- other error comes.
abbrev pub ComesOf : WorkFault → Cause → Type 0
ComesOf (Work slice.Source) cause = (cause ≡ OfSource) ⊎ (cause ≡ OfAnswer)
ComesOf (Work slice.Outlet) cause = cause ≡ OfOutlet
ComesOf (Work slice.Memory) cause = cause ≡ OfMemory
ComesOf (Work (slice.Refused refusal.StepsSpent)) cause = cause ≡ OfBounds
ComesOf (Work (slice.Refused (refusal.Module why))) cause = ⊥
ComesOf (Work slice.Failed) cause = ⊥
ComesOf (Disk fault) cause = cause ≡ OfDisk
ComesOf (Store store.TooBig) cause = cause ≡ OfBounds
ComesOf (Store other) cause = ⊥
ComesOf (Upgrade upgrade.JournalTooSmall) cause = cause ≡ OfJournal
ComesOf (Upgrade upgrade.NotCaughtUp) cause = cause ≡ OfLines

-- an error, with its cause
abbrev pub IsFailureOf : WorkFault → Reply → Type 0
IsFailureOf why reply = (cause : Cause) × ComesOf why cause × (reply ≡ Fails cause)

-- what a slice answers
abbrev pub IsReplyOf : Result Now WorkFault → Reply → Type 0
IsReplyOf (Ok now.Spent) reply = reply ≡ Spent
IsReplyOf (Ok now.Waiting) reply = reply ≡ Waits
IsReplyOf (Ok (now.Ended how)) reply = reply ≡ Over (ending_of how)
IsReplyOf (Err why) reply = IsFailureOf why reply

-- what a checkpoint or an upgrade answers
abbrev pub IsReplyOfSaving : Result (Unit {0}) WorkFault → Reply → Type 0
IsReplyOfSaving (Ok done) reply = reply ≡ Done
IsReplyOfSaving (Err why) reply = IsFailureOf why reply

-- what a call of this act answers without an error: a slice and a batch, how far they have come
abbrev pub Answered : Act → Type 0
Answered (Slice fuel) = Now
Answered (Batch fuel most) = Now
Answered Checkpoint = Unit {0}
Answered upgrading = Unit {0}

-- what that is in a life
abbrev pub IsReplyTo : (act : Act) → Result (Answered act) WorkFault → Reply → Type 0
IsReplyTo (Slice fuel) result reply = IsReplyOf result reply
IsReplyTo (Batch fuel most) result reply = IsReplyOf result reply
IsReplyTo Checkpoint result reply = IsReplyOfSaving result reply
IsReplyTo upgrading result reply = IsReplyOfSaving result reply

-- ---- why it fails

-- Between two syncs the disk surely takes fewer writes than a journal or an area has sectors.
abbrev pub TakesTooFew : Settings → Medium → Type 0
TakesTooFew config disk =
    (disk.room < config.journal) ⊎ (disk.room < (geometry_of config 0).area_sectors)

-- the next step of the process shown is a call of the host, or it takes an answer
pub record NeedsMemory (guest : Guest) (v : ProcessValue) : Type 0 where
  pub process : ProcessState
  pub shows : ShowsProcess v guest process
  pub needs : CallsHost guest process ⊎ ((question : Question)
      × (next_of guest process None ≡ Wants question))

-- Where memory has failed a call, it was wanted for the next step of the process that is then
-- shown, or to keep its answer.
abbrev pub WantedMemory : {T : Type 0} → Result T WorkFault → Guest → ProcessValue → Type 0
WantedMemory (Err (Work slice.Memory)) guest v = NeedsMemory guest v
WantedMemory other guest v = Unit {0}

-- ---- a call

-- a call of a worker: which one it is, and by which act of a life
pub record Invocation : Type 0 where
  pub of : Identity
  pub act : Act

-- of these
abbrev pub invocation : Module → Settings → Guest → Act → Invocation
invocation code config guest act = record { of = identity code config guest; act = act }

-- what happens in a call, its end included, after which it shows this worker
abbrev pub call_events : List Event → Act → Reply → ℕ → DurableValue → List Event
call_events events act reply held w = events ++ Ended act reply held (saved_of w.process) ∷ []

-- The exchanges of a call, and its end, are events that keep what was promised. At any moment of it
-- the disk holds what was promised before, and in the end what is promised then. No image that a
-- cut leaves is of a later generation than as much has then happened, or of a worker for which
-- there is no room. Few calls of the disk are begun before each exchange and before the end.
-- Without an error the worker is open on the disk again.
pub record CallCarries (i : Invocation) (promise : Promise) (stage : Stage) (reply : Reply)
    (new : DurableValue) (disk disk' : Medium) (exchanges : List Exchange) : Type 0 where
  pub events : List Event
  pub are : AreEvents exchanges events
  pub held : ℕ
  pub kept : AreKept i.of.code i.of.config promise stage (call_events events i.act reply held new)
  pub carried : CarriesPromise i.of.code i.of.config promise
      (promised promise (call_events events i.act reply held new)) disk disk'
  pub bounded : StaysWithin (promised promise (call_events events i.act reply held new)).events disk
      disk'
  pub counted : CallsForEvents (length exchanges + 1) disk disk'
  pub goes_on : phase_ended reply ≡ Open → (q : ProcessState)
      × IsOpenOn i.of.code i.of.config i.of.guest
      (promised promise (call_events events i.act reply held new))
      (stage_after stage (call_events events i.act reply held new)) q new disk'

-- A call of this act, with these exchanges. Whatever was promised of the worker that is open on
-- this disk, and wherever a life is whose source and outlet will say what they now said, it keeps
-- it.
abbrev pub ActCarries : (act : Act) → List Exchange → DurableValue → Result (Answered act) WorkFault
    → DurableValue → Medium → Medium → Type 0
ActCarries act exchanges old result new disk disk' =
    (m : Module) (config : Settings) (guest : Guest) (promise : Promise) (stage : Stage)
    (p : ProcessState) (acts : List Act) → IsOpenOn m config guest promise stage p old disk
    → stage.acts ≡ act ∷ acts → IsForetold stage exchanges
    → (reply : Reply) × IsReplyTo act result reply × WantedMemory result guest new.process
    × CallCarries (invocation m config guest act) promise stage reply new disk disk' exchanges

-- a checkpoint and an upgrade ask no source, and tell no line
abbrev pub MayExchange : Act → List Exchange → Type 0
MayExchange (Slice fuel) exchanges = Unit {0}
MayExchange (Batch fuel most) exchanges = Unit {0}
MayExchange Checkpoint exchanges = exchanges ≡ []
MayExchange upgrading exchanges = exchanges ≡ []

-- It has these exchanges with its source and its outlet, as they were made.
abbrev pub CallKeeps : {D S O : Type 0} → (D → Medium) → Giving S → Taking O → (act : Act)
    → Scene D S O → Result (Answered act) WorkFault → Scene D S O → Type 0
CallKeeps medium gives takes act before result after = (exchanges : List Exchange)
    × Exchanges gives takes before.source before.outlet exchanges after.source after.outlet
    × ActCarries act exchanges before.worker result after.worker (medium before.disk)
    (medium after.disk)
    × MayExchange act exchanges
