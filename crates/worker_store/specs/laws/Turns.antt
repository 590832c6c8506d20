-- Parts of a call, one after another: what they make of what was promised, and of the disk.
use Rattle.std.specs.Prelude.{◌≡◌, ℕ, ◌≤◌, Bool, true, List, length}
use Rattle.wasm_syntax.specs.declared.module.Module.{Module}
use Rattle.wasm_rules.specs.Validity.{IsValid}
use Rattle.wasi_abi.specs.declared.answer.Question.{Question}
use Rattle.wasi_abi.specs.rules.Configs.{Settings}
use Rattle.process_rules.specs.Processes.{ProcessState}
use Rattle.process_rules.specs.Runs.{Reaches}
use Rattle.sector_disk.specs.rules.DiskImage.{DiskImage}
use Rattle.sector_disk.specs.rules.Medium.{Medium, LeavesOnly}
use Rattle.disk_layout.specs.rules.Journal.{Record}
use Rattle.journal.specs.rules.State.{JournalState}
use Rattle.state_image.specs.rules.ProcessImage.{Saved}
use Rattle.record_replay.specs.rules.Calls.{Exchange}
use Rattle.worker_store.specs.restart_theorem.Lives.{Act, Reply, SourceSaid, Asked, Ended}
use Rattle.worker_store.specs.restart_theorem.Lives.{kept_by_end}
use Rattle.worker_store.specs.restart_theorem.Courses.{Stage}
use Rattle.worker_store.specs.restart_theorem.Promises.{Promise, after}
use Rattle.worker_store.specs.restart_theorem.Holds.{DiskImageHolds, KeepsPromise, CarriesPromise}
use Rattle.worker_store.specs.rules.Savepoints.{Savepoint}
use Rattle.worker_store.specs.rules.Carried.{IsCarried, AreOnRecord}
use Rattle.worker_store.specs.laws.Carried.{PromisesNoMore}
use Rattle.worker_store.specs.laws.Pieces.{AreDone}
use Rattle.worker_store.specs.laws.Telling.{AddsLines}

-- ---- what is promised

-- An image that held what was promised at some time before then holds it still, now that more
-- answers are kept and more lines heard.
abbrev pub StillHolds : Module → Settings → Promise → Promise → Type 0
StillHolds m config then now = (first : Promise) (image : DiskImage) → PromisesNoMore first then
    → DiskImageHolds m config first then image → DiskImageHolds m config first now image

-- So it is where lines were told,
abbrev pub ToldStillHolds : Type 0
ToldStillHolds =
    (m : Module) (config : Settings) (promise promise' : Promise) (line : ℕ)
    → AddsLines promise line promise' → StillHolds m config promise promise'

-- where a process that all kept answers lead to has asked, whatever is said to it,
abbrev pub AskedStillHolds : Type 0
AskedStillHolds =
    (m : Module) (config : Settings) (promise : Promise) (p : ProcessState) (question : Question)
    (said : SourceSaid) (fits : Bool) → IsValid m → Reaches m config promise.kept p.steps p
    → promise.synced ≤ p.steps
    → StillHolds m config promise (after promise (Asked p.steps question said fits))

-- and where a call has ended that keeps none besides.
abbrev pub EndedStillHolds : Type 0
EndedStillHolds =
    (m : Module) (config : Settings) (promise : Promise) (act : Act) (reply : Reply) (held : ℕ)
    (shown : Saved) → kept_by_end act shown promise.kept ≡ promise.kept
    → StillHolds m config promise (after promise (Ended act reply held shown))

-- What a part of a call leaves alone: that the worker has opened, and where the call began.
pub record LeavesBegun (promise promise' : Promise) (stage stage' : Stage) : Type 0 where
  pub opened : promise'.has_opened ≡ promise.has_opened
  pub step : stage'.step ≡ stage.step
  pub acts : stage'.acts ≡ stage.acts
  pub no_more : PromisesNoMore promise promise'
  pub events : promise.events ≤ promise'.events

-- So does each.
abbrev pub PartsLeaveBegun : Type 0
PartsLeaveBegun =
    (m : Module) (config : Settings) (promise promise' : Promise) (stage stage' : Stage)
    (exchanges : List Exchange) → AreDone m config promise stage exchanges promise' stage'
    → LeavesBegun promise promise' stage stage'

-- ---- a disk

-- What is promised of a worker that has opened goes on from then to now, and the disk from one
-- moment to another. A cut at any moment in between leaves what holds all that was promised then.
pub record GoesOnFrom (m : Module) (config : Settings) (then now : Promise) (old new : Medium) :
    Type 0 where
  pub opened : then.has_opened ≡ true
  pub opened_now : now.has_opened ≡ true
  pub no_more : PromisesNoMore then now
  pub still : StillHolds m config then now
  pub leaves : LeavesOnly old new (DiskImageHolds m config then now)

-- Two parts are one.
abbrev pub TurnsJoin : {D : Type 0} → (D → Medium) → Type 0
TurnsJoin {D} medium =
    (m : Module) (config : Settings) (first between last : Promise) (old inside new : D)
    → GoesOnFrom m config first between (medium old) (medium inside)
    → GoesOnFrom m config between last (medium inside) (medium new)
    → GoesOnFrom m config first last (medium old) (medium new)

-- The last part, in the end of which all is held that is promised, ends the call.
abbrev pub TurnsCarry : {D : Type 0} → (D → Medium) → Type 0
TurnsCarry {D} medium =
    (m : Module) (config : Settings) (then now : Promise) (old new : D)
    → GoesOnFrom m config then now (medium old) (medium new)
    → KeepsPromise m config now (medium new)
    → CarriesPromise m config then now (medium old) (medium new)

-- What leaves the disk alone goes on, where the disk holds what is promised now.
abbrev pub RestsGoOn : {D : Type 0} → (D → Medium) → Type 0
RestsGoOn {D} medium =
    (m : Module) (config : Settings) (then now : Promise) (disk : D) → then.has_opened ≡ true
    → now.has_opened ≡ true → PromisesNoMore then now → StillHolds m config then now
    → KeepsPromise m config now (medium disk)
    → GoesOnFrom m config then now (medium disk) (medium disk)

-- What a worker's disk keeps stays so while lines are told, where all kept answers are on the disk.
abbrev pub LinesCarry : {D : Type 0} → (D → Medium) → Type 0
LinesCarry {D} medium =
    (m : Module) (config : Settings) (promise promise' : Promise) (point : Savepoint m config)
    (journal : JournalState) (records pending : List Record) (last now p : ProcessState) (n : ℕ)
    (disk : D) → IsCarried promise point journal records pending last now (medium disk)
    → AreOnRecord promise point records → Reaches m config promise.kept n p
    → AddsLines promise (length p.host.lines) promise'
    → IsCarried promise' point journal records pending last now (medium disk)
