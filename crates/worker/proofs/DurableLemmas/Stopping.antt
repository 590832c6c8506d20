-- What stops a batch, while lines may still be held.
use Rattle.std.proofs.Common.{◌≡◌, ◌+◌, ◌-◌, ◌<◌, ◌≤◌, List, [], length, refl, sym, ap, ◌∙◌}
use Rattle.std.proofs.Common.{subst, inl, arith, Some, None, Ok, Err, true}
use Rattle.process_rules.specs.Processes.{ProcessState}
use Rattle.process.specs.declared.stop.ProcessEnd.{ProcessEnd}
use Rattle.process.specs.rules.Stops.{IsBeyond}
use Rattle.process.specs.rules.Values.{waiting_in, ending_of}
use Rattle.sector_disk.specs.rules.Medium.{Medium}
use Rattle.state_image.specs.rules.Saving.{saved_of}
use Rattle.record_replay.specs.rules.Calls.{Begun}
use Rattle.record_replay.proofs.Emitted.{released_whole}
use Rattle.worker_store.specs.restart_theorem.Lives.{Spent, Over, Waits, Fails, Cause, OfMemory}
use Rattle.worker_store.specs.restart_theorem.Lives.{OfBounds}
use Rattle.worker_store.specs.restart_theorem.Courses.{Stage, Phase, Open, NoneThere, MayFail}
use Rattle.worker_store.specs.restart_theorem.Promises.{Promise, fuel_of}
use Rattle.worker_store.specs.laws.Underway.{IsBroken, standstill}
use Rattle.worker_store.specs.laws.CallEnds.{HasBound}
use Rattle.worker_store.proofs.LawLemmas.AtHand.{shown_is_saved}
use Rattle.worker_store.proofs.LawLemmas.CallEnds.{waiting_slices_end}
use Rattle.record_replay.specs.declared.slices.now.Now.TheVariants as now
use Rattle.record_replay.specs.declared.slices.fault.SliceFault.TheVariants as slice
use Rattle.record_replay.specs.declared.slices.fault.Refusal.TheVariants as refusal
use Rattle.worker.specs.declared.fault.WorkFault.TheVariants.{Work}
use Rattle.worker.specs.declared.running_worker.RunningWorker.{RunningWorker}
use Rattle.worker.specs.DurableTurns.{Course, IsBetweenTurns, TurnEnds, running_on}
use Rattle.worker.specs.BatchTurns.{IsToldTurn, IsStopped}
use Rattle.worker.proofs.DurableLemmas.OnDisk.{keeps_now, fewer_syncs}
use Rattle.worker.proofs.DurableLemmas.Bounds.{on_disk_still}
use Rattle.worker.proofs.DurableLemmas.Ends.{done_nothing, ends_on, failed_end, open_again}
use Rattle.worker.proofs.DurableLemmas.Ends.{stays_on, not_open}
use Rattle.worker.proofs.DurableLemmas.Telling.{telling_of, running_of, broken_there, told_up_to}
use Rattle.worker.proofs.DurableLemmas.Advancing.{spent_ends, over_ends}

-- ---- the end of a batch, all of whose lines were told

module _ {D : Type 0} (medium : D → Medium) (c : Course) (promise : Promise) (stage : Stage)
    (p : ProcessState) (w : RunningWorker) (disk : D)
    (telling : IsToldTurn c promise stage p [] w (medium disk)) where
  told_steps : w.process.steps ≡ p.steps
  told_steps = let shows = telling.shows in shows.steps

  -- by a fault
  pub fails_there : (cause : Cause) → MayFail stage.phase cause
      → HasBound c.code c.config c.guest promise p cause
      → TurnEnds c promise stage (Fails cause) [] w (medium disk) (medium disk)
  fails_there cause may bound =
      let is = telling.on_disk in
      let told = told_steps in
      ends_on medium c promise promise stage stage [] w disk disk (Fails cause)
      (length promise.kept) (done_nothing c promise stage)
      (failed_end c promise stage p w stage.phase (length promise.kept) cause
      (broken_there c promise stage p telling.told telling.way) telling.shows telling.module_is may
      bound)
      (stays_on medium c promise disk telling.opened
      (keeps_now medium c.code c.config c.guest promise p p.steps promise.events w.store disk is))
      (on_disk_still medium c.code c.config c.guest promise p p.steps promise.events w.store disk is
      (promise.events + 1) (omega arith)) is.point w.store.journal is.records is.pending is.last
      is.now is.carried
      (fewer_syncs c.code c.config promise _ p.steps (w.process.steps - 1) (omega (arith, told))
      is.syncs)
      (λ e. absurd (not_open cause e))

  -- by a source that has no answer
  pub waits_there : stage.phase ≡ NoneThere p.steps → waiting_in w.process ≡ [] → p.ended ≡ None
      → p.steps < stage.step + fuel_of c.act → w.is_abreast ≡ true
      → TurnEnds c promise stage Waits [] w (medium disk) (medium disk)
  waits_there none_there none_waits unended room says =
      let is = telling.on_disk in
      let told = told_steps in
      let up_to = told_up_to c promise stage p telling.told telling.way in
      let counted : telling.told + 0 ≡ w.process.host.released = telling.counted in
      let whole = released_whole w.process c.guest p telling.shows none_waits in
      let all : telling.told ≡ length p.host.lines = omega (arith, counted, whole) in
      let line : stage.line ≡ Some (length p.host.lines) = up_to.line ∙ ap (λ n. Some n) all in
      let heard : telling.told ≤ promise.heard = up_to.heard in
      let passed : promise.passed ≤ telling.told = up_to.passed in
      let broken : IsBroken c.code c.config c.guest promise stage c.act
      (standstill (length promise.kept) p (NoneThere p.steps)) =
      subst (λ (q : Phase). IsBroken c.code c.config c.guest promise stage c.act
      (standstill (length promise.kept) p q)) none_there
      (broken_there c promise stage p telling.told telling.way) in
      ends_on medium c promise promise stage stage [] w disk disk Waits (length promise.kept)
      (done_nothing c promise stage)
      (waiting_slices_end c.code c.config c.guest promise stage c.act p (saved_of w.process) broken
      (shown_is_saved c.code c.config c.guest w.process p telling.shows telling.module_is) line
      unended room)
      (stays_on medium c promise disk telling.opened
      (keeps_now medium c.code c.config c.guest promise p p.steps promise.events w.store disk is))
      (on_disk_still medium c.code c.config c.guest promise p p.steps promise.events w.store disk is
      (promise.events + 1) (omega arith)) is.point w.store.journal is.records is.pending is.last
      is.now is.carried
      (fewer_syncs c.code c.config promise _ p.steps w.process.steps (omega (arith, told)) is.syncs)
      (λ over replayed. (
        p,
        open_again medium c promise stage p promise.events w disk Waits (length promise.kept)
            replayed telling.opened telling.texts telling.shows telling.module_is none_waits
            up_to.in_slice line (omega (arith, heard, all)) (omega (arith, passed, all))
            telling.synced (omega arith) is (omega (arith, told)) over
            (let so_far = telling.abreast in
            record { none_beyond = so_far.none_beyond; says_so = λ abreast. says }),
      ))

-- ---- it has stopped

module _ {D : Type 0} (medium : D → Medium) (c : Course) (promise : Promise) (stage : Stage)
    (p : ProcessState) (lines_held : List Begun) (w : RunningWorker) (disk : D)
    (running : IsBetweenTurns c promise stage p lines_held w (medium disk)) where
  abbrev there : IsToldTurn c promise stage p lines_held w (medium disk)
  there = telling_of c promise stage p p.steps promise.events lines_held w (medium disk) running

  running_there : (promise' : Promise) (stage' : Stage) (w' : RunningWorker) (disk' : D)
      → IsToldTurn c promise' stage' p [] w' (medium disk') → stage'.phase ≡ stage.phase
      → IsBetweenTurns c promise' stage' p [] w' (medium disk')
  running_there promise' stage' w' disk' telling phase =
      let way = running.way in
      running_of c promise' stage' p p.steps promise'.events [] w' (medium disk')
      (phase ∙ way.is_open)
      telling

  -- its fuel is spent
  pub spent_stops : p.steps ≡ c.first + fuel_of c.act → p.ended ≡ None
      → IsStopped medium c promise stage p (Ok now.Spent) Spent
      (running_on lines_held w (medium disk))
  spent_stops all unended = record {
    telling = there;
    is_reply = refl;
    ends = λ promise' stage' w' disk' telling phase none_waits says.
        spent_ends medium c promise' stage' p [] w' disk'
        (running_there promise' stage' w' disk' telling phase) refl none_waits all unended;
  }

  -- its process has ended
  pub over_stops : (how : ProcessEnd) → p.ended ≡ Some (ending_of how) → w.is_abreast ≡ true
      → IsStopped medium c promise stage p (Ok (now.Ended how)) (Over (ending_of how))
      (running_on lines_held w (medium disk))
  over_stops how ended abreast = record {
    telling = there;
    is_reply = refl;
    ends = λ promise' stage' w' disk' telling phase none_waits says.
        over_ends medium c promise' stage' p [] w' disk'
        (running_there promise' stage' w' disk' telling phase) refl none_waits (ending_of how) ended
        (says ∙ abreast);
  }

  fails_still : (cause : Cause) → MayFail Open cause
      → ((promise' : Promise) → HasBound c.code c.config c.guest promise' p cause)
      → (promise' : Promise) (stage' : Stage) (w' : RunningWorker) (disk' : D)
      → IsToldTurn c promise' stage' p [] w' (medium disk') → stage'.phase ≡ stage.phase
      → waiting_in w'.process ≡ [] → w'.is_abreast ≡ w.is_abreast
      → TurnEnds c promise' stage' (Fails cause) [] w' (medium disk') (medium disk')
  fails_still cause may bound promise' stage' w' disk' telling phase none_waits says =
      let way = running.way in
      fails_there medium c promise' stage' p w' disk' telling cause
      (subst (λ (q : Phase). MayFail q cause) (sym (phase ∙ way.is_open)) may) (bound promise')

  -- it wants memory
  pub memory_stops : IsStopped medium c promise stage p (Err (Work slice.Memory)) (Fails OfMemory)
      (running_on lines_held w (medium disk))
  memory_stops = record {
    telling = there;
    is_reply = (OfMemory, refl, refl);
    ends = fails_still OfMemory tt (λ promise'. tt);
  }

  -- its numbers are at their end
  pub numbers_stop : IsBeyond c.guest p None
      → IsStopped medium c promise stage p (Err (Work (slice.Refused refusal.StepsSpent)))
      (Fails OfBounds) (running_on lines_held w (medium disk))
  numbers_stop beyond = record {
    telling = there;
    is_reply = (OfBounds, refl, refl);
    ends = fails_still OfBounds tt (λ promise'. inl (None, beyond));
  }
