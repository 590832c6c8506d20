-- How a slice of a worker on its disk ends.
use Rattle.std.proofs.Common.{◌≡◌, ℕ, ◌+◌, ◌≤◌, List, [], length, refl, subst, arith, true, Some}
use Rattle.std.proofs.lemmas.List.{take_all}
use Rattle.wasi_calls_rules.specs.laws.Laws.{IsOfBytes}
use Rattle.process_rules.specs.Processes.{ProcessState, host_of}
use Rattle.process_rules.specs.Runs.{Runs}
use Rattle.process.specs.rules.Values.{ShowsProcess, waiting_in}
use Rattle.sector_disk.specs.rules.Medium.{Medium}
use Rattle.disk_layout.specs.rules.Journal.{Record}
use Rattle.journal.specs.rules.State.{JournalState}
use Rattle.state_image.specs.rules.Saving.{saved_of}
use Rattle.record_replay.specs.rules.Calls.{Begun, Exchange}
use Rattle.worker_store.specs.restart_theorem.Lives.{Slice, Reply, Cause, Fails, Ended}
use Rattle.worker_store.specs.restart_theorem.Courses.{Stage, Phase, Open, MayFail, phase_ended}
use Rattle.worker_store.specs.restart_theorem.Courses.{next_stage}
use Rattle.worker_store.specs.restart_theorem.Promises.{Promise, synced_by, IsEnding}
use Rattle.worker_store.specs.restart_theorem.Holds.{KeepsPromise, CarriesPromise, StaysWithin}
use Rattle.worker_store.specs.restart_theorem.Exchanges.{none}
use Rattle.worker_store.specs.rules.Savepoints.{Savepoint}
use Rattle.worker_store.specs.laws.Underway.{IsInItsSlice, IsBroken, standstill}
use Rattle.worker_store.specs.laws.CallEnds.{HasBound}
use Rattle.worker_store.specs.laws.Pieces.{AreDone}
use Rattle.worker_store.specs.rules.Carried.{count_at, IsCarried, SyncsAreHeld}
use Rattle.worker_store.specs.laws.Turns.{GoesOnFrom}
use Rattle.worker_store.proofs.LawLemmas.AtHand.{shown_is_saved}
use Rattle.worker_store.proofs.LawLemmas.CallEnds.{failed_slices_end, calls_leave_between}
use Rattle.worker_store.proofs.LawLemmas.Carrying.{carried_keeps}
use Rattle.worker_store.proofs.LawLemmas.Raising.{ended_carries}
use Rattle.worker_store.proofs.LawLemmas.Saving.{ends_promise_no_less}
use Rattle.worker_store.proofs.LawLemmas.TurnLemmas.{ended_still_holds, rests_go_on, turns_join}
use Rattle.worker_store.proofs.LawLemmas.TurnLemmas.{same_no_more}
use Rattle.worker_store.proofs.LawLemmas.Underway.{among_first}
use Rattle.worker.specs.declared.running_worker.RunningWorker.{RunningWorker}
use Rattle.worker.specs.rules.DurableValues.{durable_of}
use Rattle.worker.specs.rules.OpenWorkers.{IsOnDisk, IsAbreast, IsOpenOn}
use Rattle.worker.specs.DurableTurns.{Course, IsRunningOn, TurnEnds, slice_end, identity_of}
use Rattle.worker.specs.DurableTurns.{running_on}
use Rattle.worker.proofs.DurableLemmas.OnDisk.{ended_on, lowered_to}

-- before the first exchange
pub done_nothing : (c : Course) (promise : Promise) (stage : Stage)
    → AreDone c.code c.config promise stage [] promise stage
done_nothing c promise stage = record {
  events = [];
  are = none;
  kept = tt;
  promised_is = refl;
  stage_is = refl;
}

-- an error closes the worker
pub not_open : (cause : Cause) → phase_ended (Fails cause) ≡ Open → ⊥
not_open cause e = absurd (cc)

module _ {D : Type 0} (medium : D → Medium) (c : Course) where
  -- nothing has happened to the disk yet
  pub stays_on : (promise : Promise) (disk : D) → promise.has_opened ≡ true
      → KeepsPromise c.code c.config promise (medium disk)
      → GoesOnFrom c.code c.config promise promise (medium disk) (medium disk)
  stays_on promise disk opened keeps =
      rests_go_on medium c.code c.config promise promise disk opened opened (same_no_more promise)
      (λ first image no_more held. held) keeps

  -- what a call of the disk carries goes on
  pub carried_on : (promise : Promise) (old new : D) → promise.has_opened ≡ true
      → CarriesPromise c.code c.config promise promise (medium old) (medium new)
      → GoesOnFrom c.code c.config promise promise (medium old) (medium new)
  carried_on promise old new opened carries = record {
    opened = opened;
    opened_now = opened;
    no_more = same_no_more promise;
    still = λ first image no_more held. held;
    leaves = carries.at_any_moment;
  }

  module _ (promise between : Promise) (stage inside : Stage) (exchanges : List Exchange)
      (w : RunningWorker) (disk disk' : D) (reply : Reply) (held : ℕ)
      (done : AreDone c.code c.config promise stage exchanges between inside)
      (ending : IsEnding c.code c.config between inside (record {
        act = c.act;
        reply = reply;
        held = held;
        shown = saved_of w.process;
      })) where
    -- The end comes after a part that has gone on, where the disk holds the syncs that it tells.
    pub ends_on : GoesOnFrom c.code c.config promise between (medium disk) (medium disk')
        → StaysWithin (between.events + 1) (medium disk) (medium disk')
        → (point : Savepoint c.code c.config) (journal : JournalState)
        (records pending : List Record) (last now : ProcessState)
        → IsCarried between point journal records pending last now (medium disk')
        → SyncsAreHeld c.code c.config between.kept (count_at point records)
        (synced_by reply w.process.steps)
        → (phase_ended reply ≡ Open → (replayed : ℕ) → (q : ProcessState)
        × IsOpenOn c.code c.config c.guest (slice_end between reply held w)
        (next_stage inside (Ended c.act reply held (saved_of w.process))) q
        (durable_of w replayed) (medium disk'))
        → TurnEnds c promise stage reply exchanges w (medium disk) (medium disk')
    ends_on goes bounded point journal records pending last now carried syncs goes_on =
        let later = ended_carries medium c.code c.config between point journal records pending last
        now (Slice 0) reply held (saved_of w.process) disk' carried refl (λ count. refl) syncs
        in
        let keeps = carried_keeps medium c.code c.config (slice_end between reply held w)
        point journal records pending last now disk' later in
        let rest = rests_go_on medium c.code c.config between
        (slice_end between reply held w) disk' goes.opened_now goes.opened_now
        (ends_promise_no_less between (Slice 0) reply held (saved_of w.process))
        (ended_still_holds c.code c.config between (Slice 0) reply held (saved_of w.process)
        refl)
        keeps in
        record {
          between = between;
          inside = inside;
          held = held;
          done = done;
          ending = ending;
          onward = turns_join medium c.code c.config promise between
              (slice_end between reply held w) disk disk' disk' goes rest;
          bounded = bounded;
          keeps = keeps;
          goes_on = goes_on;
        }

  -- A call of the disk has failed before any exchange. What is promised at the end was carried.
  pub fails_at_call : (promise : Promise) (stage : Stage) (w : RunningWorker) (disk disk' : D)
      (cause : Cause) (held : ℕ) → promise.has_opened ≡ true
      → IsEnding c.code c.config promise stage (record {
        act = c.act;
        reply = Fails cause;
        held = held;
        shown = saved_of w.process;
      })
      → CarriesPromise c.code c.config promise (slice_end promise (Fails cause) held w)
      (medium disk) (medium disk')
      → StaysWithin (promise.events + 1) (medium disk) (medium disk')
      → TurnEnds c promise stage (Fails cause) [] w (medium disk) (medium disk')
  fails_at_call promise stage w disk disk' cause held opened ending carries bounded = record {
    between = promise;
    inside = stage;
    held = held;
    done = done_nothing c promise stage;
    ending = ending;
    onward = record {
      opened = opened;
      opened_now = opened;
      no_more = ends_promise_no_less promise (Slice 0) (Fails cause) held
          (saved_of w.process);
      still = ended_still_holds c.code c.config promise (Slice 0) (Fails cause) held
          (saved_of w.process) refl;
      leaves = carries.at_any_moment;
    };
    bounded = bounded;
    keeps = carries.in_the_end;
    goes_on = λ e. absurd (not_open cause e);
  }

-- ---- the end as an event

-- an error where the process has come to p
pub failed_end : (c : Course) (promise : Promise) (stage : Stage) (p : ProcessState)
    (w : RunningWorker) (phase : Phase) (held : ℕ) (cause : Cause)
    → IsBroken c.code c.config c.guest promise stage c.act (standstill held p phase)
    → ShowsProcess w.process c.guest p → w.process.machine.guest ≡ c.code → MayFail phase cause
    → HasBound c.code c.config c.guest promise p cause
    → IsEnding c.code c.config promise stage (record {
      act = c.act;
      reply = Fails cause;
      held = held;
      shown = saved_of w.process;
    })
failed_end c promise stage p w phase held cause broken shows module_is may bound =
    failed_slices_end c.code c.config c.guest promise stage c.act held p (saved_of w.process) phase
    cause broken (shown_is_saved c.code c.config c.guest w.process p shows module_is) may bound

-- what is under way is where it was
pub broken_open : (c : Course) (promise : Promise) (stage : Stage) (p : ProcessState)
    (step latest : ℕ) (lines_held : List Begun) (w : RunningWorker) (disk : Medium)
    → IsRunningOn c promise stage p step latest (running_on lines_held w disk)
    → IsBroken c.code c.config c.guest promise stage c.act (standstill (length promise.kept) p Open)
broken_open c promise stage p step latest lines_held w disk running = record {
  in_slice = running.way.in_slice;
  is = running.way.is_open;
  told = among_first stage.line _ (length p.host.lines) running.way.line running.way.emitted;
}

-- ---- open again

-- A slice that is over without an error leaves the worker open.
pub open_again : {D : Type 0} (medium : D → Medium) (c : Course) (promise : Promise)
    (stage : Stage) (p : ProcessState) (latest : ℕ) (w : RunningWorker) (disk : D) (reply : Reply)
    (held replayed : ℕ) → promise.has_opened ≡ true → IsOfBytes (host_of c.config)
    → ShowsProcess w.process c.guest p → w.process.machine.guest ≡ c.code
    → waiting_in w.process ≡ []
    → IsInItsSlice c.code c.config c.guest promise stage c.act (length promise.kept) p
    → stage.line ≡ Some (length p.host.lines) → length p.host.lines ≤ promise.heard
    → promise.passed ≤ length p.host.lines → promise.synced ≤ p.steps
    → latest ≤ promise.events + 1
    → IsOnDisk (identity_of c) promise p p.steps latest w.store (medium disk)
    → synced_by reply w.process.steps ≤ p.steps → phase_ended reply ≡ Open
    → IsAbreast (slice_end promise reply held w)
    (next_stage stage (Ended c.act reply held (saved_of w.process))) p w.is_abreast
    → IsOpenOn c.code c.config c.guest (slice_end promise reply held w)
    (next_stage stage (Ended c.act reply held (saved_of w.process))) p
    (durable_of w replayed) (medium disk)
open_again medium c promise stage p latest w disk reply held replayed opened texts shows module_is
    none_waits slice line heard passed synced early on_disk told over abreast =
    let counted : w.process.steps ≡ p.steps = shows.steps in
    let stores = on_disk.stores in
    record {
      works = stores.works;
      opened = opened;
      texts = texts;
      shows = shows;
      module_is = module_is;
      between = calls_leave_between c.code c.config c.guest promise stage (Slice 0) reply held
          p (saved_of w.process) slice.start slice.begins
          (subst (λ l. Runs c.guest slice.start l p.steps p)
          (take_all (length promise.kept) promise.kept (omega arith)) slice.runs)
          line counted over;
      heard = heard;
      passed = omega (arith, passed);
      none_waits = none_waits;
      on_disk = lowered_to medium c.code c.config c.guest (slice_end promise reply held w) p
          p.steps latest w.store disk
          (ended_on medium c.code c.config c.guest promise p p.steps latest w.store disk on_disk
          (Slice 0) reply held (saved_of w.process) refl (λ count. refl) told)
          p.steps (promise.events + 1) (omega arith) early;
      synced = omega (arith, synced, told);
      abreast = abreast;
    }
