-- A checkpoint, as an event of a life, and what its disk holds.
use Rattle.std.proofs.Common.{◌≡◌, ℕ, ◌+◌, ◌≤◌, [], ◌++◌, length, true, false, refl, sym}
use Rattle.std.proofs.Common.{subst, arith, ap, ◌∙◌}
use Rattle.std.specs.Prelude.{List, Result, Ok, Err}
use Rattle.process_rules.specs.Runs.{none}
use Rattle.process.specs.rules.Values.{IsProcess}
use Rattle.state_image.specs.rules.ProcessImage.{process_image}
use Rattle.state_image.specs.rules.Saving.{saved_of}
use Rattle.sector_disk.specs.rules.Medium.{Medium, Passes, CallsUpTo}
use Rattle.sector_disk.proofs.CallLemmas.{no_calls}
use Rattle.record_replay.specs.rules.Calls.{Exchange}
use Rattle.disk_layout.specs.declared.geometry.Geometry.{Geometry}
use Rattle.disk_layout.specs.rules.Places.{area_place, rounded_up, total_sectors}
use Rattle.journal.specs.rules.Steps.{barrier_calls}
use Rattle.snapshot.specs.rules.Calls.{with_head}
use Rattle.snapshot.proofs.StoreCalls.{some_none}
use Rattle.worker_store.specs.restart_theorem.Lives.{Act, Checkpoint}
use Rattle.worker_store.proofs.LawLemmas.Acts.{checkpoints_save}
use Rattle.worker_store.specs.declared.fault.StoreFault.{StoreFault}
use Rattle.worker_store.specs.declared.fault.StoreFault.TheVariants as store
use Rattle.worker_store.specs.declared.store.WorkerStore.{WorkerStore}
use Rattle.worker_store.specs.laws.Laws.{ProcessImagesFitAreas}
use Rattle.worker_store.specs.rules.Calls.{StoresNext}
use Rattle.worker.specs.declared.running_worker.RunningWorker.{RunningWorker}
use Rattle.worker.specs.declared.fault.WorkFault.{WorkFault}
use Rattle.worker.specs.rules.WorkFaults.{fault_of_store}
use Rattle.worker.specs.rules.DurableValues.{DurableValue, durable_of}
use Rattle.worker.specs.rules.DurableCalls.{ActCarries, Answered}
use Rattle.worker.specs.Savings.{HasSaveCause, LeavesFrontOrNext, SaveCalls}
use Rattle.worker.specs.rules.CallCounts.{most_saving}
use Rattle.worker.specs.rules.Checkpoints.{CheckpointCalls, HasCheckpointCause, IsSavedIn}
use Rattle.worker.proofs.SavingActLemmas.{SavesShown, saving_done, saving_fault}
use Rattle.worker.proofs.CauseLemmas.{fits_now}
use Rattle.worker.proofs.DurableLemmas.OnDisk.{room_now}

-- ---- a worker that hasn't failed

-- then its store hasn't
pub works_inside : {w : DurableValue} {running : RunningWorker} {replayed : ℕ}
    → durable_of running replayed ≡ w → w.has_failed ≡ false
    → running.store.journal.has_failed ≡ false
works_inside view works = ap (λ (v : DurableValue). v.has_failed) view ∙ works

-- ---- an open worker

-- A checkpoint saves the process as it is, and keeps nothing besides.
checkpoint_saves_shown : (running : RunningWorker) (replayed : ℕ) (after_store : WorkerStore)
    (disk : Medium) → IsProcess running.process
    → SavesShown Checkpoint (durable_of running replayed)
    (durable_of (record running { store = after_store }) replayed) disk
checkpoint_saves_shown running replayed after_store disk is m config guest promise stage p
    opened = (
      [],
      p,
      record {
        comes = record { runs = none; lines = refl };
        is_process = is;
        shows = opened.shows;
        module_is = opened.module_is;
        none_waits = opened.none_waits;
        room = room_now m config guest promise p p.steps promise.events running.store disk
            opened.on_disk running.process opened.shows;
      },
      checkpoints_save promise (saved_of running.process),
      λ differs. absurd (differs refl),
    )

-- how its disk is left
module _ {D : Type 0} (medium : D → Medium) (running : RunningWorker) (replayed : ℕ)
    (disk disk' : D) (fit : ProcessImagesFitAreas) (is : IsProcess running.process)
    (after_store : WorkerStore)
    (leaves : LeavesFrontOrNext running.store running.process (medium disk) (medium disk'))
    (few : CallsUpTo (most_saving (medium disk).sectors) (medium disk) (medium disk')) where
  pub done_carries : after_store.journal.has_failed ≡ false
      → StoresNext running.store after_store running.process (medium disk) (medium disk')
      → ActCarries Checkpoint [] (durable_of running replayed) (Ok tt)
      (durable_of (record running { store = after_store }) replayed) (medium disk)
      (medium disk')
  done_carries works stores =
      saving_done medium Checkpoint (durable_of running replayed)
      (durable_of (record running { store = after_store }) replayed) disk disk' fit
      (checkpoint_saves_shown running replayed after_store (medium disk) is) leaves few
      tt works refl stores

  pub fault_carries : (fault : StoreFault)
      → HasSaveCause running.store running.process (medium disk) (medium disk') fault
      → ActCarries Checkpoint [] (durable_of running replayed) (Err (fault_of_store fault))
      (durable_of (record running { store = after_store }) replayed) (medium disk)
      (medium disk')
  fault_carries fault cause =
      saving_fault medium Checkpoint (durable_of running replayed)
      (durable_of (record running { store = after_store }) replayed) disk disk' fit
      (checkpoint_saves_shown running replayed after_store (medium disk) is) leaves few
      running.process (fits_now medium fit (durable_of running replayed) disk is) fault cause

-- ---- a worker that has failed

-- it does nothing
module _ (old : DurableValue) (failed : old.has_failed ≡ true) (disk disk' : Medium) where
  pub failed_carries : (act : Act) (exchanges : List Exchange)
      (result : Result (Answered act) WorkFault) (new : DurableValue)
      → ActCarries act exchanges old result new disk disk'
  failed_carries act exchanges result new m config guest promise stage p acts opened next_act
      foretold = let works = opened.works in absurd (cc)

pub failed_calls : (old : DurableValue) (why : WorkFault) (disk : Medium)
    → CheckpointCalls {T = Unit {0}} old (Err why) disk disk
failed_calls old why disk = (
  [],
  some_none (area_place old.store.geometry (old.store.journal.generation + 1))
      (rounded_up (length (process_image (saved_of old.process)))),
  record {
    all = tt;
    begun = no_calls (with_head (old.store.journal.generation + 1) []
        ++ barrier_calls old.store.geometry old.store.journal) disk;
  },
)

-- ---- whatever is on the disk

checkpoint_cause : (running : RunningWorker) (replayed : ℕ) (old new : Medium) (fault : StoreFault)
    → HasSaveCause running.store running.process old new fault
    → HasCheckpointCause (durable_of running replayed) old new (fault_of_store fault)
checkpoint_cause running replayed old new store.Memory cause = absurd cause
checkpoint_cause running replayed old new other cause = cause

-- ---- as contracts see it

module _ {D : Type 0} (medium : D → Medium) (running : RunningWorker) (replayed : ℕ)
    (old : DurableValue) (is_old : durable_of running replayed ≡ old) (disk disk' : D) where
  pub room_for : total_sectors old.store.geometry ≤ (medium disk).sectors
      → total_sectors running.store.geometry ≤ (medium disk).sectors
  room_for room = subst (λ (w : DurableValue).
      total_sectors w.store.geometry ≤ (medium disk).sectors) (sym is_old) room

  pub room_after : (after_store : WorkerStore) → after_store.geometry ≡ running.store.geometry
      → Passes (medium disk) (medium disk') (λ image. Unit {0})
      → total_sectors old.store.geometry ≤ (medium disk).sectors
      → total_sectors after_store.geometry ≤ (medium disk').sectors
  room_after after_store same passes room =
      let first = room_for room in
      let sectors = passes.sectors in
      subst (λ (g : Geometry). total_sectors g ≤ (medium disk').sectors) (sym same)
      (omega (arith, first, sectors))

  pub saved_in : (after_store : WorkerStore)
      → after_store.journal.generation ≡ running.store.journal.generation + 1
      → after_store.journal.has_failed ≡ running.store.journal.has_failed
      → IsSavedIn old (durable_of (record running { store = after_store }) replayed)
  saved_in after_store numbered works = subst (λ (w : DurableValue).
      IsSavedIn w (durable_of (record running { store = after_store }) replayed)) is_old
      (record { process = refl; replayed = refl; unfailed = works; generation = numbered })

  pub calls_err : (fault : StoreFault) (why : WorkFault)
      → SaveCalls {T = Unit {0}} running.store running.process (Err fault) (medium disk)
      (medium disk') → CheckpointCalls {T = Unit {0}} old (Err why) (medium disk) (medium disk')
  calls_err fault why made = subst (λ (w : DurableValue).
      CheckpointCalls {T = Unit {0}} w (Err why) (medium disk) (medium disk')) is_old
      (let makes = made.2 in (made.0, made.1, record { all = tt; begun = makes.begun }))

  pub calls_ok : (done : Unit {0})
      → SaveCalls running.store running.process (Ok done) (medium disk) (medium disk')
      → CheckpointCalls {E = WorkFault} old (Ok done) (medium disk) (medium disk')
  calls_ok done made = subst (λ (w : DurableValue).
      CheckpointCalls {E = WorkFault} w (Ok done) (medium disk) (medium disk')) is_old
      (let makes = made.2 in (made.0, made.1, record { all = makes.all; begun = makes.begun }))

  pub cause_on_any_disk : (fault : StoreFault) (why : WorkFault) → why ≡ fault_of_store fault
      → HasSaveCause running.store running.process (medium disk) (medium disk') fault
      → HasCheckpointCause old (medium disk) (medium disk') why
  cause_on_any_disk fault why same cause =
      subst (λ (e : WorkFault). HasCheckpointCause old (medium disk) (medium disk') e) (sym same)
      (subst (λ (w : DurableValue). HasCheckpointCause w (medium disk) (medium disk')
      (fault_of_store fault)) is_old
      (checkpoint_cause running replayed (medium disk) (medium disk') fault cause))

  module _ (fit : ProcessImagesFitAreas) (is : IsProcess running.process)
      (after_store : WorkerStore) (leaves : LeavesFrontOrNext running.store running.process
      (medium disk) (medium disk')) (few : CallsUpTo (most_saving (medium disk).sectors)
      (medium disk) (medium disk')) where
    pub done_keeps : after_store.journal.has_failed ≡ false
        → StoresNext running.store after_store running.process (medium disk) (medium disk')
        → ActCarries Checkpoint [] old (Ok tt)
        (durable_of (record running { store = after_store }) replayed) (medium disk)
        (medium disk')
    done_keeps works stores = subst (λ (w : DurableValue). ActCarries Checkpoint [] w (Ok tt)
        (durable_of (record running { store = after_store }) replayed) (medium disk)
        (medium disk')) is_old
        (done_carries medium running replayed disk disk' fit is after_store leaves few works
        stores)

    pub fault_keeps : (fault : StoreFault) (why : WorkFault) → why ≡ fault_of_store fault
        → HasSaveCause running.store running.process (medium disk) (medium disk') fault
        → ActCarries Checkpoint [] old (Err why)
        (durable_of (record running { store = after_store }) replayed) (medium disk)
        (medium disk')
    fault_keeps fault why same cause = subst (λ (e : WorkFault). ActCarries Checkpoint [] old
        (Err e) (durable_of (record running { store = after_store }) replayed) (medium disk)
        (medium disk')) (sym same)
        (subst (λ (w : DurableValue). ActCarries Checkpoint [] w (Err (fault_of_store fault))
        (durable_of (record running { store = after_store }) replayed) (medium disk)
        (medium disk')) is_old
        (fault_carries medium running replayed disk disk' fit is after_store leaves few fault
        cause))
