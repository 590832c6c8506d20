-- The calls of one life, each as its clause says (this project's own).
use Rattle.std.specs.Prelude.{◌≡◌, ℕ, List, [], ◌∷◌, Option, Some, None, Result, Ok, Err, IfErr}
use Rattle.std.specs.Prelude.{false}
use Rattle.wasi_abi.specs.rules.Configs.{Settings}
use Rattle.process.specs.rules.Values.{IsProcess}
use Rattle.state_image.specs.rules.ProcessImage.{Saved}
use Rattle.state_image.specs.rules.Saving.{saved_of}
use Rattle.sector_disk.specs.rules.DiskImage.{DiskImage}
use Rattle.sector_disk.specs.rules.Medium.{Medium}
use Rattle.record_replay.specs.declared.fault.ReplayFault.TheVariants as replay
use Rattle.record_replay.specs.rules.Calls.{Giving, Taking}
use Rattle.worker_store.specs.restart_theorem.Lives.{Act, Slice, Batch, Checkpoint, Upgrade, Cause}
use Rattle.worker_store.specs.restart_theorem.Lives.{OfMemory, OfOutlet, Event, Told, Asked, Opened}
use Rattle.worker_store.specs.restart_theorem.Lives.{Ended, Beginning, Creates}
use Rattle.worker_store.specs.restart_theorem.Lives.Beginning.{Recovers as recovers}
use Rattle.worker.specs.declared.fault.WorkFault.{WorkFault}
use Rattle.worker.specs.declared.recover_fault.RecoverFault.{RecoverFault}
use Rattle.worker.specs.declared.recover_fault.RecoverFault.TheVariants as recover
use Rattle.worker.specs.rules.DurableValues.{DurableValue}
use Rattle.worker.specs.rules.DurableCalls.{Answered, CallKeeps, ComesOf}
use Rattle.worker.specs.rules.Checkpoints.{HasCheckpointCause}
use Rattle.worker.specs.rules.Upgrades.{HasUpgradeCause, LeavesProcess}
use Rattle.worker.specs.rules.DurableCreations.{CreationKeeps, IsNotCreatedOn}
use Rattle.worker.specs.rules.DurableFailures.{HasSliceCause}
use Rattle.worker.specs.rules.RecoverFaults.{LayerWantsMemory}
use Rattle.worker.specs.rules.Recoveries.{SaysNoWorker, RecoveryCarries}
use Rattle.worker.specs.rules.ShownDisks.{Recovers}
use Rattle.worker.specs.rules.Scenes.{Scene, scene, Site, site, Surroundings, surroundings}
use Rattle.worker.specs.rules.Scenes.{surroundings_of}

-- ---- the calls of a life

-- When each error of a call comes, whatever is on the disk. An upgrade also says what it leaves.
abbrev pub HasActCause : Act → DurableValue → WorkFault → DurableValue → Medium → Medium → Type 0
HasActCause (Slice fuel) old why new disk disk' = HasSliceCause old disk disk' why
HasActCause (Batch fuel most) old why new disk disk' = HasSliceCause old disk disk' why
HasActCause Checkpoint old why new disk disk' = HasCheckpointCause old disk disk' why
HasActCause Upgrade old why new disk disk' =
    HasUpgradeCause old disk disk' why × LeavesProcess old why new.process

-- a call of this act fails
pub record FailsBy (act : Act) (old : DurableValue) (why : WorkFault) (new : DurableValue)
    (disk disk' : Medium) : Type 0 where
  -- until a call has failed the worker shows a process, whose numbers can be counted
  pub shows : old.has_failed ≡ false → IsProcess old.process
  pub cause : HasActCause act old why new disk disk'

-- Slices, batches, checkpoints and upgrades of a worker that is open, one after another, each as
-- its clause says. After an error there is no other one. What is then still to be done, or that
-- error.
pub data CallsInOrder {D S O : Type 0} (medium : D → Medium) (gives : Giving S) (takes : Taking O)
    : List Act → Scene D S O → Result (List Act) RecoverFault → Surroundings D S O → Type 0 where
  no_more : {acts : List Act} {here : Scene D S O}
      → CallsInOrder medium gives takes acts here (Ok acts) (surroundings_of here)
  called : {act : Act} {acts : List Act} {before after : Scene D S O}
      {undone : Result (List Act) RecoverFault} {last : Surroundings D S O} (said : Answered act)
      → CallKeeps medium gives takes act before (Ok said) after
      → CallsInOrder medium gives takes acts after undone last
      → CallsInOrder medium gives takes (act ∷ acts) before undone last
  call_failed : {act : Act} {acts : List Act} {before after : Scene D S O} {why : WorkFault}
      → CallKeeps medium gives takes act before (Err why) after
      → FailsBy act before.worker why after.worker (medium before.disk) (medium after.disk)
      → CallsInOrder medium gives takes (act ∷ acts) before (Err (recover.Worker why))
      (surroundings_of after)

-- what a worker is created of: the bytes of a module, and its configuration
pub record Recipe : Type 0 where
  pub bytes : List ℕ
  pub config : Settings

-- of these
abbrev pub recipe : List ℕ → Settings → Recipe
recipe bytes config = record { bytes = bytes; config = config }

-- what a creation answers, in the words of a recovery
abbrev pub opened_by : Result DurableValue WorkFault → Result DurableValue RecoverFault
opened_by (Ok w) = Ok w
opened_by (Err why) = Err (recover.Worker why)

-- A life begins by a recovery. Where that says that there is no worker, one is created. The disk is
-- one of the model: after the recovery there is an image that a cut may leave.
pub data BeginsLife {D O : Type 0} (medium : D → Medium) (takes : Taking O) (made_of : Recipe)
    (found : Site D O) : Beginning → Result DurableValue RecoverFault → Site D O → Type 0 where
  recovered : {result : Result DurableValue RecoverFault} {disk : D} {outlet : O}
      (image : DiskImage) → (medium disk).crash_images image → (SaysNoWorker result → ⊥)
      → Recovers medium takes result found.disk disk found.outlet outlet
      → RecoveryCarries takes result (medium found.disk) (medium disk) found.outlet outlet
      → BeginsLife medium takes made_of found recovers result (site disk outlet)
  created : {mid disk : D} {outlet : O} (none : Result DurableValue RecoverFault)
      (result : Result DurableValue WorkFault) (image : DiskImage)
      → (medium mid).crash_images image → SaysNoWorker none
      → Recovers medium takes none found.disk mid found.outlet outlet
      → RecoveryCarries takes none (medium found.disk) (medium mid) found.outlet outlet
      → CreationKeeps made_of.bytes made_of.config result (medium mid) (medium disk)
      → IfErr result (IsNotCreatedOn made_of.bytes made_of.config (medium mid) (medium disk))
      → BeginsLife medium takes made_of found Creates (opened_by result) (site disk outlet)

-- What one life came to: how it began, and the worker with which it opened. Then what was still to
-- be done in the end, or the error that ended it, and what it left.
pub record OneLife (D S O : Type 0) : Type 0 where
  pub begins : Beginning
  pub worker : Option DurableValue
  pub undone : Result (List Act) RecoverFault
  pub last : Surroundings D S O

-- of these
abbrev pub one_life : {D S O : Type 0} → Beginning → Option DurableValue
    → Result (List Act) RecoverFault → Surroundings D S O → OneLife D S O
one_life begins worker undone last = record {
  begins = begins;
  worker = worker;
  undone = undone;
  last = last;
}

-- The calls of one life, from what it found on. No opening asks its source.
pub data IsOneLife {D S O : Type 0} (medium : D → Medium) (gives : Giving S) (takes : Taking O)
    (made_of : Recipe) (acts : List Act) (found : Surroundings D S O)
    : OneLife D S O → Type 0 where
  opened : {begins : Beginning} {w : DurableValue} {disk : D} {outlet : O}
      {undone : Result (List Act) RecoverFault} {last : Surroundings D S O}
      → BeginsLife medium takes made_of (site found.disk found.outlet) begins (Ok w)
      (site disk outlet)
      → CallsInOrder medium gives takes acts (scene w disk found.source outlet) undone last
      → IsOneLife medium gives takes made_of acts found (one_life begins (Some w) undone last)
  unopened : {begins : Beginning} {why : RecoverFault} {disk : D} {outlet : O}
      → BeginsLife medium takes made_of (site found.disk found.outlet) begins (Err why)
      (site disk outlet)
      → IsOneLife medium gives takes made_of acts found
      (one_life begins None (Err why) (surroundings disk found.source outlet))

-- nothing is left to be done, or an error ended it
abbrev pub undone_acts : Result (Unit {0}) RecoverFault → Result (List Act) RecoverFault
undone_acts (Ok done) = Ok []
undone_acts (Err why) = Err why

-- ---- what is read off a life

-- what the worker showed when the life opened
abbrev pub opened_in : List Event → Option Saved
opened_in [] = None
opened_in (Opened held shown ∷ events) = Some shown
opened_in (Told r is_taken ∷ events) = opened_in events
opened_in (Asked steps question said fits ∷ events) = opened_in events
opened_in (Ended act reply held shown ∷ events) = opened_in events

-- what a worker shows first, where a life opens with one
abbrev pub shown_first : Option DurableValue → Option Saved
shown_first None = None
shown_first (Some w) = Some (saved_of w.process)

-- what an error of an opening or of a call is in a life
abbrev pub IsCauseOf : RecoverFault → Cause → Type 0
IsCauseOf (recover.Worker why) cause = ComesOf why cause
IsCauseOf (recover.Replay replay.Memory) cause = cause ≡ OfMemory
IsCauseOf (recover.Replay replay.Outlet) cause = cause ≡ OfOutlet
IsCauseOf other cause = LayerWantsMemory other × (cause ≡ OfMemory)
