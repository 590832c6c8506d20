-- What becomes of a worker and of its disk by each of its calls (this project's own).
use Rattle.std.specs.Prelude.{◌≡◌, ◌≢◌, ℕ, ◌≤◌, false, true, Result, IfErr, IfOk, OnErr, OnOk, []}
use Rattle.process.specs.rules.Values.{IsProcess}
use Rattle.sector_disk.specs.rules.Medium.{Medium, CallsUpTo}
use Rattle.disk_layout.specs.rules.Places.{total_sectors}
use Rattle.record_replay.specs.rules.Calls.{Giving, Taking}
use Rattle.record_replay.specs.declared.slices.now.Now.{Now}
use Rattle.record_replay.specs.declared.slices.now.Now.TheVariants.{Spent}
use Rattle.record_replay.specs.rules.Slices.{Slices}
use Rattle.worker_store.specs.restart_theorem.Lives.{Slice, Checkpoint}
use Rattle.worker_store.specs.restart_theorem.Lives.Act.{Upgrade as upgrading}
use Rattle.worker.specs.declared.fault.WorkFault.{WorkFault}
use Rattle.worker.specs.declared.recover_fault.RecoverFault.{RecoverFault}
use Rattle.worker.specs.rules.CallCounts.{most_recovering, most_saving}
use Rattle.worker.specs.rules.Checkpoints.{CheckpointCalls, HasCheckpointCause, IsSavedIn}
use Rattle.worker.specs.rules.DurableCalls.{ActCarries, CallKeeps}
use Rattle.worker.specs.rules.DurableFailures.{HasSliceCause, SlicesOnDiskInVain}
use Rattle.worker.specs.rules.DurableValues.{DurableValue, without_disk}
use Rattle.worker.specs.rules.Outlets.{HeedsOutlet, SaysOutletFault}
use Rattle.worker.specs.rules.Recoveries.{HasRecoveryCause, RecoveryCarries}
use Rattle.worker.specs.rules.ShownDisks.{Recovers}
use Rattle.worker.specs.rules.Scenes.{Scene, ports_of}
use Rattle.worker.specs.rules.SliceCalls.{SliceCalls}
use Rattle.worker.specs.rules.Unsynced.{CountsInRecovery, CountsInSlice}
use Rattle.worker.specs.rules.Upgrades.{EndsInTwo, HasUpgradeCause, IsUpgradedIn, LeavesProcess}
use Rattle.worker.specs.rules.Upgrades.{UpgradeCalls}

-- A recovery: the worker that the disk stands for goes on.
pub record RecoversWorker {D O : Type 0} (medium : D → Medium) (takes : Taking O)
    (result : Result DurableValue RecoverFault) (old new : D) (outlet outlet' : O) : Type 0 where
  -- Nothing is written or told before a good sync. What the disk then shows decides the result:
  -- whatever is there, it is what the newest head and all after it say. What is refused there is
  -- left as it is.
  pub recovers : Recovers medium takes result old new outlet outlet'
  -- whatever was promised is kept, by Ok or by any error
  pub carries : RecoveryCarries takes result (medium old) (medium new) outlet outlet'
  -- the disk has room for the worker
  pub room : IfOk result (λ w. total_sectors w.store.geometry ≤ (medium new).sectors)
  -- Whatever is on the disk, a fault of the disk has its cause, and nothing has failed before.
  pub on_any_disk : IfErr result (λ why. HasRecoveryCause (medium old) (medium new) why)
  pub asks : CallsUpTo (most_recovering (medium old).sectors) (medium old) (medium new)
  -- Whatever is on the disk, the outlet took each line; or it refused the last one, and the error
  -- says so.
  pub heeds : HeedsOutlet takes (SaysOutletFault result) outlet outlet'
  -- at no moment were there more unsynced writes than before, or than an area's and its head
  pub counts : CountsInRecovery result (medium old) (medium new)

-- What a slice and a batch have in common, of at most so many steps.
pub record RunsSteps {D S O : Type 0} (medium : D → Medium) (gives : Giving S) (takes : Taking O)
    (fuel : ℕ) (before : Scene D S O) (result : Result Now WorkFault) (after : Scene D S O)
    : Type 0 where
  -- until a call has failed the worker shows a process, whose numbers can be counted
  pub shows : before.worker.has_failed ≡ false → IsProcess before.worker.process
  -- it runs as a worker does that has no disk, and holds no line back
  pub done : IfOk result (λ now. Slices gives takes (without_disk before.worker) fuel now
      (without_disk after.worker) (ports_of before) (ports_of after))
  -- where the worker waits or has ended, no line is beyond its process
  pub abreast : IfOk result (λ now. now ≢ Spent → after.worker.is_abreast ≡ true)
  -- after an error the worker has failed
  pub fails : OnErr result (after.worker.has_failed ≡ true)
  -- Its calls of the disk are barriers and saves. The generation is one more by each save that has
  -- succeeded, and by nothing else.
  pub calls : SliceCalls result before.worker.store after.worker.store (medium before.disk)
      (medium after.disk)
  pub replayed : after.worker.replayed ≡ before.worker.replayed
  -- whatever is on the disk, a fault of the disk has its cause, and `Failed` too
  pub on_any_disk : IfErr result (λ why. HasSliceCause before.worker (medium before.disk)
      (medium after.disk) why)
  -- the disk has room for the next call
  pub room : total_sectors after.worker.store.geometry ≤ (medium after.disk).sectors
  -- at no moment were there more unsynced writes than before and the journal's, or an area's and
  -- its head
  pub counts : CountsInSlice before.worker.store.geometry (medium before.disk) (medium after.disk)

-- A slice of at most so many steps.
pub record RunsSlice {D S O : Type 0} (medium : D → Medium) (gives : Giving S) (takes : Taking O)
    (fuel : ℕ) (before : Scene D S O) (result : Result Now WorkFault) (after : Scene D S O)
    : Type 0 where
  pub steps : RunsSteps medium gives takes fuel before result after
  -- whatever was promised is kept, by Ok or by any error
  pub carries : CallKeeps medium gives takes (Slice fuel) before result after
  -- where it fails, it has run so far as a worker that has no disk
  pub failed : before.worker.has_failed ≡ false → IfErr result (λ why. SlicesOnDiskInVain gives
      takes before.worker.process fuel why after.worker.process (ports_of before)
      (ports_of after))

-- What each call keeps that saves a worker: a checkpoint, or an upgrade.
pub record KeepsInSaving (before after : DurableValue) (result : Result (Unit {0}) WorkFault)
    (old new : Medium) : Type 0 where
  -- until a call has failed the worker shows a process, whose numbers can be counted
  pub shows : before.has_failed ≡ false → IsProcess before.process
  -- after an error the worker has failed, and its generation is as it was
  pub fails : OnErr result (after.has_failed ≡ true)
  pub unsaved : OnErr result
      (after.store.journal.generation ≡ before.store.journal.generation)
  pub replayed : after.replayed ≡ before.replayed
  -- the disk has room for the next call
  pub room : total_sectors after.store.geometry ≤ new.sectors
  pub asks : CallsUpTo (most_saving old.sectors) old new
  -- at no moment were there more unsynced writes than before and the journal's, or an area's and
  -- its head
  pub counts : CountsInSlice before.store.geometry old new

-- A checkpoint: the process is saved as it is, as a snapshot of the next generation.
pub record SavesWorker (before after : DurableValue) (result : Result (Unit {0}) WorkFault)
    (old new : Medium) : Type 0 where
  -- Whatever was promised is kept, by Ok or by any error; once it has answered Ok, also that no
  -- later life comes after this process.
  pub carries : ActCarries Checkpoint [] before result after old new
  -- the process is as it was, and only an error makes the worker fail from then on
  pub saved : OnOk result (IsSavedIn before after)
  pub process : after.process ≡ before.process
  pub keeps : KeepsInSaving before after result old new
  -- its calls are those of a barrier, and then those of a commit; after an error these are begun
  pub calls : CheckpointCalls before result old new
  -- whatever is on the disk, each error has its cause
  pub on_any_disk : IfErr result (λ e. HasCheckpointCause before old new e)

-- An upgrade: the process is saved in version 2, as a snapshot of the next generation.
pub record UpgradesWorker (before after : DurableValue) (result : Result (Unit {0}) WorkFault)
    (old new : Medium) : Type 0 where
  -- Whatever was promised is kept, by Ok or by any error; once it has answered Ok, also that each
  -- later life is of version 2, and none comes after this process.
  pub carries : ActCarries upgrading [] before result after old new
  -- once it has answered Ok, the disk stands for a worker of version 2
  pub ends : OnOk result (EndsInTwo before old new)
  -- the process is in version 2, and else as it was; after an error it may be
  pub done : OnOk result (IsUpgradedIn before after)
  pub leaves : IfErr result (λ e. LeavesProcess before e after.process)
  pub keeps : KeepsInSaving before after result old new
  -- its calls are those of a barrier, and then those of a commit; after an error these are begun
  pub calls : UpgradeCalls before result old new
  -- whatever is on the disk, each error has its cause
  pub on_any_disk : IfErr result (λ e. HasUpgradeCause before old new e)
