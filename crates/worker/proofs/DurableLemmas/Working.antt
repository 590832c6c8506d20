-- The turns of a slice of a worker on its disk, one after another.
use Rattle.std.proofs.Common.{◌≡◌, ℕ, ◌+◌, ◌-◌, ◌≤◌, List, [], ◌∷◌, ◌++◌, refl, sym, ap}
use Rattle.std.proofs.Common.{◌∙◌, subst, arith, true, false, Ok, Err, ◌*◌, length, length-append}
use Rattle.std.specs.Prelude.{Result}
use Rattle.wasm_syntax.specs.declared.module.Module.{Module}
use Rattle.wasi_abi.specs.declared.answer.Question.{Question}
use Rattle.wasi_abi.specs.rules.Configs.{Settings}
use Rattle.process_rules.specs.Processes.{ProcessState, Guest}
use Rattle.process.specs.declared.fault.ProcessFault.{ProcessFault}
use Rattle.process.specs.declared.stop.ProcessEnd.{ProcessEnd}
use Rattle.process.specs.declared.stop.Stop.TheVariants as stops
use Rattle.process.specs.rules.Values.{ProcessValue, ShowsProcess, ending_of}
use Rattle.process.specs.rules.Stops.{AdvancesProcess}
use Rattle.sector_disk.specs.rules.Medium.{Medium, CallsUpTo}
use Rattle.state_image.specs.rules.Saving.{saved_of}
use Rattle.record_replay.specs.rules.Calls.{Giving, Taking, Begun, Exchange, Asks, Tells, Exchanges}
use Rattle.record_replay.specs.rules.Calls.{Releases, AnswersInOrder, ports}
use Rattle.record_replay.proofs.Following.{exchanges_join}
use Rattle.worker_store.specs.restart_theorem.Lives.{Act, Slice, Reply, Spent, Over, Waits, Fails}
use Rattle.worker_store.specs.restart_theorem.Lives.{Ended}
use Rattle.worker_store.specs.restart_theorem.Courses.{Stage, Open, phase_ended, next_stage}
use Rattle.worker_store.specs.restart_theorem.Courses.{stage_after}
use Rattle.worker_store.specs.restart_theorem.Promises.{Promise, fuel_of}
use Rattle.worker_store.specs.restart_theorem.Holds.{CarriesPromise, StaysWithin}
use Rattle.worker_store.specs.laws.Acts.{TakesSteps, most_held}
use Rattle.worker_store.specs.rules.BetweenCalls.{IsForetold}
use Rattle.worker_store.specs.laws.Turns.{LeavesBegun}
use Rattle.worker_store.proofs.LawLemmas.Acts.{steps_end_alike}
use Rattle.worker_store.proofs.LawLemmas.CallEnds.{slices_begin}
use Rattle.worker_store.proofs.LawLemmas.Pieces.{parts_join, parts_are_foretold, ends_join}
use Rattle.worker_store.proofs.LawLemmas.TurnLemmas.{turns_join, turns_carry, parts_leave_begun}
use Rattle.record_replay.proofs.Emitted.{released_whole}
use Rattle.record_replay.specs.declared.slices.fault.SliceFault.TheVariants as slice
use Rattle.record_replay.specs.declared.slices.now.Now.{Now}
use Rattle.record_replay.specs.declared.slices.now.Now.TheVariants as now
use Rattle.worker_store.specs.declared.store.WorkerStore.{WorkerStore}
use Rattle.worker.specs.declared.fault.WorkFault.{WorkFault}
use Rattle.worker.specs.declared.fault.WorkFault.TheVariants.{Work}
use Rattle.worker.specs.declared.running_worker.RunningWorker.{RunningWorker}
use Rattle.record_replay.specs.rules.Refusals.{slice_fault}
use Rattle.worker.specs.rules.CallCounts.{most_calls, most_saving, CallsForEvents}
use Rattle.worker.specs.StoreTurns.{owed, PaysCalls}
use Rattle.worker.proofs.CallCountLemmas.{turns_then, turns_end, turn_once, turn_free}
use Rattle.worker.proofs.CallCountLemmas.{turn_last, owed_within}
use Rattle.worker.specs.rules.DurableValues.{durable_of}
use Rattle.worker.specs.rules.OpenWorkers.{IsOpenOn}
use Rattle.worker.specs.rules.DurableCalls.{IsReplyOf, CallCarries, CallKeeps, WantedMemory}
use Rattle.worker.specs.rules.DurableCalls.{invocation}
use Rattle.worker.specs.rules.DurableFailures.{IsDiskCause, SlicesOnDiskInVain, StopsForMemory}
use Rattle.worker.specs.rules.Scenes.{scene}
use Rattle.worker.specs.DurableTurns.{Course, IsBetweenTurns, TurnGoes, TurnEnds, slice_end}
use Rattle.worker.specs.DurableTurns.{told_lines_of, FlushesTurn, AsksOutside, AsksTurn, WorksOn}
use Rattle.worker.specs.DurableTurns.{asking_scene}
use Rattle.record_replay.proofs.Joining.{tells_ask_nothing, releases_of_tells}
use Rattle.worker.proofs.DurableLemmas.OnDisk.{keeps_now}
use Rattle.worker.proofs.DurableLemmas.Bounds.{bounds_join, on_disk_still}
use Rattle.worker.proofs.DurableLemmas.Holding.{none_to_tell}
use Rattle.worker.proofs.DurableLemmas.Ends.{done_nothing, stays_on, not_open}
use Rattle.worker.proofs.DurableLemmas.Advancing.{with_process, says_abreast, advance_owes}
use Rattle.worker.proofs.DurableLemmas.Advancing.{advance_asks, advance_spent, advance_over}
use Rattle.worker.proofs.DurableLemmas.Advancing.{advance_fails}

-- ---- two parts of a slice

module _ {D : Type 0} (medium : D → Medium) (c : Course) (promise : Promise) (stage : Stage)
    (xs ys : List Exchange) (w w' : RunningWorker) (disk mid disk' : D)
    (a : TurnGoes c promise stage xs [] w (medium disk) (medium mid)) where
  goes_after : TurnGoes c a.promise' a.stage' ys [] w' (medium mid) (medium disk')
      → TurnGoes c promise stage (xs ++ ys) [] w' (medium disk) (medium disk')
  goes_after b = record {
    promise' = b.promise';
    stage' = b.stage';
    process = b.process;
    done = parts_join c.code c.config promise a.promise' b.promise' stage a.stage' b.stage' xs ys
        a.done b.done;
    onward = turns_join medium c.code c.config promise a.promise' b.promise' disk mid disk' a.onward
        b.onward;
    bounded = bounds_join a.promise'.events b.promise'.events (medium disk) (medium mid)
        (medium disk') begun.events a.bounded b.bounded;
    running = b.running;
  }
    where
      begun : LeavesBegun a.promise' b.promise' a.stage' b.stage'
      begun = parts_leave_begun c.code c.config a.promise' b.promise' a.stage' b.stage' ys b.done

  ends_after : (reply : Reply)
      → TurnEnds c a.promise' a.stage' reply ys w' (medium mid) (medium disk')
      → TurnEnds c promise stage reply (xs ++ ys) w' (medium disk) (medium disk')
  ends_after reply b = record {
    between = b.between;
    inside = b.inside;
    held = b.held;
    done = parts_join c.code c.config promise a.promise' b.between stage a.stage' b.inside xs ys
        a.done b.done;
    ending = b.ending;
    onward = turns_join medium c.code c.config promise a.promise'
        (slice_end b.between reply b.held w') disk mid disk' a.onward b.onward;
    bounded = bounds_join a.promise'.events (b.between.events + 1) (medium disk) (medium mid)
        (medium disk') (one_on begun.events) a.bounded b.bounded;
    keeps = b.keeps;
    goes_on = b.goes_on;
  }
    where
      begun : LeavesBegun a.promise' b.between a.stage' b.inside
      begun = parts_leave_begun c.code c.config a.promise' b.between a.stage' b.inside ys b.done

      one_on : a.promise'.events ≤ b.between.events → a.promise'.events ≤ b.between.events + 1
      one_on le = omega (arith, le)

-- ---- exchanges

module _ {S O : Type 0} (gives : Giving S) (takes : Taking O) where
  pub told_alone : (source : S) (outlet outlet' : O) (begun : List Begun)
      → Releases takes outlet begun outlet'
      → Exchanges gives takes source outlet (told_lines_of begun) source outlet'
  told_alone source outlet outlet' begun released = record {
    asked = subst (λ z. AnswersInOrder gives source z source) (sym (tells_ask_nothing begun)) refl;
    released = subst (λ z. Releases takes outlet z outlet') (sym (releases_of_tells begun))
        released;
  }

  pub asked_alone : (question : Question) (exchanges : List Exchange) (source source' : S)
      (outlet : O)
      → AsksOutside gives question exchanges source source'
      → Exchanges gives takes source outlet exchanges source' outlet
  asked_alone question [] source source' outlet same = record { asked = same; released = refl }
  asked_alone question (Asks ask ∷ []) source source' outlet h =
      record { asked = (source', h.1, refl); released = refl }
  asked_alone question (Asks ask ∷ (x ∷ others)) source source' outlet h = absurd h
  asked_alone question (Tells begun ∷ others) source source' outlet h = absurd h

  pub nothing_alone : (source : S) (outlet : O)
      → Exchanges gives takes source outlet [] source outlet
  nothing_alone source outlet = record { asked = refl; released = refl }

-- ---- a slice so far

module _ {D S O : Type 0} (medium : D → Medium) (gives : Giving S) (takes : Taking O) where
  -- the exchanges so far are those of a worker that goes on
  abbrev pub SoFar : RunningWorker → ℕ → RunningWorker → D → D → S → S → O → O → Type 0
  SoFar old fuel w disk disk' source source' outlet outlet' =
      (exchanges : List Exchange)
      × Exchanges gives takes source outlet exchanges source' outlet'
      × ((c : Course) (promise : Promise) (stage : Stage) (p : ProcessState) → fuel_of c.act ≡ fuel
      → c.first ≡ old.process.steps → IsBetweenTurns c promise stage p [] old (medium disk)
      → IsForetold stage exchanges
      → TurnGoes c promise stage exchanges [] w (medium disk) (medium disk'))
      × ((medium disk').counted + owed (medium disk).sectors w.store.journal.kept
      ≤ (medium disk).counted + (medium disk).sectors
      + length exchanges * most_calls (medium disk).sectors)

  pub so_far_none : (w : RunningWorker) (fuel : ℕ) (disk : D) (source : S) (outlet : O)
      → SoFar w fuel w disk disk source source outlet outlet
  so_far_none w fuel disk source outlet = (
    [],
    nothing_alone gives takes source outlet,
    λ c promise stage p fuel_is first_is between foretold. record {
      promise' = promise;
      stage' = stage;
      process = p;
      done = done_nothing c promise stage;
      onward = stays_on medium c promise disk between.opened
          (keeps_now medium c.code c.config c.guest promise p p.steps promise.events w.store disk
          between.on_disk);
      bounded = on_disk_still medium c.code c.config c.guest promise p p.steps promise.events
          w.store disk between.on_disk promise.events (omega arith);
      running = between;
    },
    (let few = owed_within (medium disk).sectors w.store.journal.kept in omega (arith, few)),
  )

  module _ (old w : RunningWorker) (fuel : ℕ) (disk mid disk' : D) (s t u : S) (o q r : O)
      (so_far : SoFar old fuel w disk mid s t o q) (w' : RunningWorker) (ys : List Exchange)
      (more : Exchanges gives takes t q ys u r) where
    -- it goes on
    pub then_goes : ((c : Course) (promise : Promise) (stage : Stage) (p : ProcessState)
        → fuel_of c.act ≡ fuel → c.first ≡ old.process.steps
        → IsBetweenTurns c promise stage p [] w (medium mid) → IsForetold stage ys
        → TurnGoes c promise stage ys [] w' (medium mid) (medium disk'))
        → (medium disk').counted + owed (medium disk).sectors w'.store.journal.kept
        ≤ (medium mid).counted + owed (medium disk).sectors w.store.journal.kept
        + length ys * most_calls (medium disk).sectors
        → SoFar old fuel w' disk disk' s u o r
    then_goes turn pays = (
      so_far.0 ++ ys,
      exchanges_join gives takes s u t o r q so_far.0 ys so_far.1 more,
      λ c promise stage p fuel_is first_is between foretold.
          let first = parts_are_foretold c.code c.config promise promise stage stage so_far.0 ys
          foretold in
          let a = so_far.2 c promise stage p fuel_is first_is between first.1 in
          let both = parts_are_foretold c.code c.config promise a.promise' stage a.stage' so_far.0
          ys foretold in
          goes_after medium c promise stage so_far.0 ys w w' disk mid disk' a
          (turn c a.promise' a.stage' a.process fuel_is first_is a.running (both.0 a.done)),
      turns_then (length so_far.0) (length ys) (length (so_far.0 ++ ys))
          (most_calls (medium disk).sectors) (medium disk).counted (medium mid).counted
          (medium disk').counted (medium disk).sectors
          (owed (medium disk).sectors w.store.journal.kept)
          (owed (medium disk).sectors w'.store.journal.kept) so_far.3 pays
          (length-append so_far.0 ys),
    )

    -- it is over
    pub then_ends : (result : Result Now WorkFault)
        → ((c : Course) (promise : Promise) (stage : Stage) (p : ProcessState)
        → fuel_of c.act ≡ fuel → c.first ≡ old.process.steps
        → IsBetweenTurns c promise stage p [] w (medium mid) → IsForetold stage ys
        → (reply : Reply) × IsReplyOf result reply
        × TurnEnds c promise stage reply ys w' (medium mid) (medium disk'))
        → (medium disk').counted ≤ (medium mid).counted
        + owed (medium disk).sectors w.store.journal.kept + most_saving (medium disk).sectors
        → WorksOn medium gives takes fuel (scene old disk s o) result (scene w' disk' u r)
    then_ends result turn pays = (
      so_far.0 ++ ys,
      exchanges_join gives takes s u t o r q so_far.0 ys so_far.1 more,
      λ c promise stage p fuel_is first_is between foretold.
          let first = parts_are_foretold c.code c.config promise promise stage stage so_far.0 ys
          foretold in
          let a = so_far.2 c promise stage p fuel_is first_is between first.1 in
          let both = parts_are_foretold c.code c.config promise a.promise' stage a.stage' so_far.0
          ys foretold in
          let last = turn c a.promise' a.stage' a.process fuel_is first_is a.running
          (both.0 a.done) in (
            last.0,
            last.1,
            ends_after medium c promise stage so_far.0 ys w w' disk mid disk' a last.0 last.2,
          ),
      turns_end (length so_far.0) (length ys) (length (so_far.0 ++ ys))
          (most_calls (medium disk).sectors) (medium disk).counted (medium mid).counted
          (medium disk').counted (medium disk).sectors
          (owed (medium disk).sectors w.store.journal.kept)
          (most_saving (medium disk).sectors) so_far.3
          (turn_last (length ys) (most_calls (medium disk).sectors) (medium mid).counted
          (medium disk').counted (owed (medium disk).sectors w.store.journal.kept)
          (most_saving (medium disk).sectors) pays) (length-append so_far.0 ys) (omega arith),
    )

  -- ---- its turns

  module _ (old w : RunningWorker) (v : ProcessValue) (fuel fuel_left : ℕ) (disk mid : D)
      (s t : S) (o q : O) (so_far : SoFar old fuel w disk mid s t o q)
      (fuel_left_is : fuel_left ≡ fuel - (w.process.steps - old.process.steps))
      (same : v.host.released ≡ w.process.host.released)
      (same_guest : v.machine.guest ≡ w.process.machine.guest)
      (long : (medium mid).sectors ≡ (medium disk).sectors) where
    nothing_called : (medium mid).counted ≤ (medium mid).counted
        + owed (medium disk).sectors w.store.journal.kept + most_saving (medium disk).sectors
    nothing_called = omega arith

    fuel_left_of : (c : Course) → fuel_of c.act ≡ fuel → c.first ≡ old.process.steps
        → fuel_left ≡ fuel_of c.act - (w.process.steps - c.first)
    fuel_left_of c fuel_is first_is =
        fuel_left_is ∙ ap (λ n. n - (w.process.steps - old.process.steps)) (sym fuel_is)
        ∙ ap (λ n. fuel_of c.act - (w.process.steps - n)) (sym first_is)

    -- in a slice no line is held
    none_held : (c : Course) → 0 ≤ most_held c.act
    none_held c = omega arith

    pub works_spent : AdvancesProcess w.process fuel_left (Ok stops.Spent) v
        → WorksOn medium gives takes fuel (scene old disk s o) (Ok now.Spent)
        (scene (with_process w v) mid t q)
    works_spent advances =
        then_ends old w fuel disk mid mid s t t o q q so_far (with_process w v) []
        (nothing_alone gives takes t q) (Ok now.Spent)
        (λ c promise stage p fuel_is first_is between foretold. (
          Spent,
          refl,
          advance_spent medium c promise stage p [] w v mid between fuel_left
              (fuel_left_of c fuel_is first_is)
              same same_guest refl advances,
        )) nothing_called

    pub works_over : (how : ProcessEnd) → AdvancesProcess w.process fuel_left
        (Ok (stops.Ended how)) v → WorksOn medium gives takes fuel (scene old disk s o)
        (Ok (now.Ended how)) (scene (says_abreast (with_process w v)) mid t q)
    works_over how advances =
        then_ends old w fuel disk mid mid s t t o q q so_far (says_abreast (with_process w v)) []
        (nothing_alone gives takes t q) (Ok (now.Ended how))
        (λ c promise stage p fuel_is first_is between foretold. (
          Over (ending_of how),
          refl,
          advance_over medium c promise stage p [] w v mid between fuel_left
              (fuel_left_of c fuel_is first_is)
              same same_guest how refl advances,
        )) nothing_called

    pub works_in_vain : (why : ProcessFault) → AdvancesProcess w.process fuel_left (Err why) v
        → WorksOn medium gives takes fuel (scene old disk s o) (Err (Work (slice_fault why)))
        (scene (with_process w v) mid t q)
    works_in_vain why advances =
        then_ends old w fuel disk mid mid s t t o q q so_far (with_process w v) []
        (nothing_alone gives takes t q) (Err (Work (slice_fault why)))
        (λ c promise stage p fuel_is first_is between foretold.
        let fails = advance_fails medium c promise stage p [] w v mid between fuel_left
        (fuel_left_of c fuel_is first_is) same same_guest why advances in
        (Fails fails.0, (fails.0, fails.1, refl), fails.2)) nothing_called

    -- what is owed
    module _ (advances : AdvancesProcess w.process fuel_left (Ok stops.Owes) v) (w' : RunningWorker)
        (disk' : D) (r : O) where
      pub works_flushed : FlushesTurn takes (with_process w v) (Ok tt) w' (medium mid)
          (medium disk') q r
          → PaysCalls {T = Unit {0}} (Ok tt) w.store w'.store (medium mid) (medium disk')
          → SoFar old fuel w' disk disk' s t o r
      works_flushed flushes pays =
          then_goes old w fuel disk mid disk' s t t o q r so_far w' (told_lines_of flushes.0)
          (told_alone gives takes t q r flushes.0 flushes.1)
          (λ c promise stage p fuel_is first_is between foretold.
          let owes = advance_owes medium c promise stage p [] w v mid between fuel_left
          (fuel_left_of c fuel_is first_is) same same_guest advances in
          flushes.2 c promise stage owes.process owes.owing foretold)
          (turn_free (length (told_lines_of flushes.0)) (most_calls (medium disk).sectors)
          (medium mid).counted (medium disk').counted
          (owed (medium disk).sectors w.store.journal.kept)
          (owed (medium disk).sectors w'.store.journal.kept)
          (subst (λ (n : ℕ). (medium disk').counted + owed n w'.store.journal.kept
          ≤ (medium mid).counted + owed n w.store.journal.kept) long pays))

      pub works_unflushed : (why : WorkFault)
          → FlushesTurn takes (with_process w v) (Err why) w' (medium mid) (medium disk') q r
          → PaysCalls {T = Unit {0}} (Err why) w.store w'.store (medium mid) (medium disk')
          → WorksOn medium gives takes fuel (scene old disk s o) (Err why) (scene w' disk' t r)
      works_unflushed why flushes pays =
          then_ends old w fuel disk mid disk' s t t o q r so_far w' (told_lines_of flushes.0)
          (told_alone gives takes t q r flushes.0 flushes.1) (Err why)
          (λ c promise stage p fuel_is first_is between foretold.
          let owes = advance_owes medium c promise stage p [] w v mid between fuel_left
          (fuel_left_of c fuel_is first_is) same same_guest advances in
          let fails = flushes.2 c promise stage owes.process owes.owing foretold in
          (Fails fails.0, (fails.0, fails.1, refl), fails.2))
          (let paid = subst (λ (n : ℕ). (medium disk').counted
          ≤ (medium mid).counted + owed n w.store.journal.kept) long pays in omega (arith, paid))

    -- what is asked
    module _ (question : Question) (advances : AdvancesProcess w.process fuel_left
        (Ok (stops.Asks question)) v) (w' : RunningWorker) (disk' : D) (u : S)
        (few : CallsUpTo (most_saving (medium mid).sectors) (medium mid) (medium disk')) where
      -- it ends the slice, if it does
      called_last : (medium disk').counted ≤ (medium mid).counted
          + owed (medium disk).sectors w.store.journal.kept + most_saving (medium disk).sectors
      called_last = omega (arith, few, long)

      pub works_given : AsksTurn medium gives question (asking_scene (with_process w v) mid t)
          (Ok true) (asking_scene w' disk' u) → SoFar old fuel w' disk disk' s u o q
      works_given asks =
          then_goes old w fuel disk mid disk' s t u o q q so_far w' asks.0
          (asked_alone gives takes question asks.0 t u q asks.1)
          (λ c promise stage p fuel_is first_is between foretold.
          let there = advance_asks medium c promise stage p [] w v mid between fuel_left
          (fuel_left_of c fuel_is first_is) same same_guest question (none_held c) advances in
          asks.2 c promise stage there.process there.asking foretold)
          (let less = owed_within (medium disk).sectors w'.store.journal.kept in
          let one = asks.3 in
          turn_once (length asks.0) (most_calls (medium disk).sectors) (medium mid).counted
          (medium disk').counted (owed (medium disk).sectors w.store.journal.kept)
          (owed (medium disk).sectors w'.store.journal.kept) (most_saving (medium mid).sectors) few
          (omega (arith, less, long)) (omega (arith, one)))

      pub works_waiting : AsksTurn medium gives question (asking_scene (with_process w v) mid t)
          (Ok false) (asking_scene w' disk' u)
          → WorksOn medium gives takes fuel (scene old disk s o) (Ok now.Waiting)
          (scene w' disk' u q)
      works_waiting asks =
          then_ends old w fuel disk mid disk' s t u o q q so_far w' asks.0
          (asked_alone gives takes question asks.0 t u q asks.1) (Ok now.Waiting)
          (λ c promise stage p fuel_is first_is between foretold.
          let there = advance_asks medium c promise stage p [] w v mid between fuel_left
          (fuel_left_of c fuel_is first_is) same same_guest question (none_held c) advances in
          (Waits, refl, asks.2 c promise stage there.process there.asking foretold)) called_last

      pub works_unasked : (why : WorkFault)
          → AsksTurn medium gives question (asking_scene (with_process w v) mid t) (Err why)
          (asking_scene w' disk' u)
          → WorksOn medium gives takes fuel (scene old disk s o) (Err why) (scene w' disk' u q)
      works_unasked why asks =
          then_ends old w fuel disk mid disk' s t u o q q so_far w' asks.0
          (asked_alone gives takes question asks.0 t u q asks.1) (Err why)
          (λ c promise stage p fuel_is first_is between foretold.
          let there = advance_asks medium c promise stage p [] w v mid between fuel_left
          (fuel_left_of c fuel_is first_is) same same_guest question (none_held c) advances in
          let fails = asks.2 c promise stage there.process there.asking foretold in
          (Fails fails.0, (fails.0, fails.1, refl), fails.2)) called_last

-- ---- the whole slice

-- a worker that is open begins a slice
begins : (m : Module) (config : Settings) (guest : Guest) (promise : Promise) (stage : Stage)
    (p : ProcessState) (acts : List Act) (running : RunningWorker) (replayed fuel : ℕ)
    (disk : Medium)
    → IsOpenOn m config guest promise stage p (durable_of running replayed) disk
    → stage.acts ≡ Slice fuel ∷ acts
    → IsBetweenTurns (record {
      code = m;
      config = config;
      guest = guest;
      act = Slice fuel;
      first = running.process.steps;
    }) promise stage p [] running disk
begins m config guest promise stage p acts running replayed fuel disk open_on next_act =
    let shows = open_on.shows in
    let between = open_on.between in
    record {
      opened = open_on.opened;
      texts = open_on.texts;
      shows = open_on.shows;
      module_is = open_on.module_is;
      told = length p.host.lines;
      counted = (let whole =
          released_whole running.process guest p open_on.shows open_on.none_waits in
          let all : length p.host.lines + 0 ≡ running.process.host.released =
          omega (arith, whole) in all);
      queued = none_to_tell running.process p.host.lines open_on.none_waits;
      way = slices_begin m config guest promise stage (Slice fuel) acts p between next_act tt
          open_on.heard open_on.passed;
      began = between.step ∙ sym shows.steps;
      on_disk = open_on.on_disk;
      synced = open_on.synced;
      abreast = open_on.abreast;
    }

-- how a slice ends is how its call does; after an error its store may be another one
module _ {D : Type 0} (medium : D → Medium) (c : Course) (promise : Promise) (stage : Stage)
    (reply : Reply) (exchanges : List Exchange) (w : RunningWorker) (store : WorkerStore)
    (replayed : ℕ) (disk disk' : D)
    (ends : TurnEnds c promise stage reply exchanges w (medium disk) (medium disk'))
    (few : CallsForEvents (length exchanges + 1) (medium disk) (medium disk')) where
  pub call_carries : TakesSteps c.act → (phase_ended reply ≡ Open → store ≡ w.store)
      → CallCarries (invocation c.code c.config c.guest c.act) promise stage reply
      (durable_of (record w { store = store }) replayed) (medium disk) (medium disk') exchanges
  call_carries stepping same =
      let done = ends.done in
      let joined = ends_join c.code c.config promise ends.between stage ends.inside exchanges
      (Ended c.act reply ends.held (saved_of w.process)) done ends.ending in
      let promised_then = joined.1
      ∙ steps_end_alike c.act ends.between reply ends.held (saved_of w.process) stepping in
      record {
        events = done.events;
        are = done.are;
        held = ends.held;
        kept = joined.0;
        carried = subst (λ z. CarriesPromise c.code c.config promise z (medium disk)
            (medium disk')) (sym promised_then)
            (turns_carry medium c.code c.config promise _ disk disk' ends.onward ends.keeps);
        bounded = subst (λ (z : Promise). StaysWithin z.events (medium disk) (medium disk'))
            (sym promised_then) ends.bounded;
        counted = few;
        goes_on = λ over.
            let again = ends.goes_on over replayed in (
              again.0,
              subst (λ z. IsOpenOn c.code c.config c.guest z (stage_after stage (done.events
                  ++ Ended c.act reply ends.held (saved_of w.process) ∷ [])) again.0
                  (durable_of (record w { store = store }) replayed) (medium disk'))
                  (sym promised_then)
                  (subst (λ z. IsOpenOn c.code c.config c.guest
                  (slice_end ends.between reply ends.held w) z again.0
                  (durable_of (record w { store = store }) replayed) (medium disk'))
                  (sym joined.2)
                  (subst (λ (s : WorkerStore). IsOpenOn c.code c.config c.guest
                  (slice_end ends.between reply ends.held w)
                  (next_stage ends.inside
                  (Ended c.act reply ends.held (saved_of w.process))) again.0
                  (durable_of (record w { store = s }) replayed) (medium disk'))
                  (sym (same over)) again.1)),
            );
      }

-- where memory has failed it, it was wanted so
pub wanted_memory : (guest : Guest) (p : ProcessState) (fuel : ℕ) (made : List Exchange) (n : ℕ)
    (q : ProcessState) (v : ProcessValue) (why : WorkFault) → ShowsProcess v guest q
    → (why ≡ Work slice.Memory → StopsForMemory guest p fuel made n q)
    → WantedMemory {T = Now} (Err why) guest v
wanted_memory guest p fuel made n q v (Work slice.Memory) shows stops =
    let stop = stops refl in record { process = q; shows = shows; needs = stop.2 }
wanted_memory guest p fuel made n q v other shows stops = tt

module _ {D S O : Type 0} (medium : D → Medium) (gives : Giving S) (takes : Taking O)
    (old new : RunningWorker) (replayed fuel : ℕ) (disk disk' : D) (source source' : S)
    (outlet outlet' : O) where
  carries_by : (store : WorkerStore) (result : Result Now WorkFault)
      → ((reply : Reply) → IsReplyOf result reply → phase_ended reply ≡ Open
      → store ≡ new.store)
      → ((guest : Guest) (p : ProcessState) → ShowsProcess old.process guest p
      → WantedMemory result guest new.process)
      → WorksOn medium gives takes fuel (scene old disk source outlet) result
      (scene new disk' source' outlet')
      → CallKeeps medium gives takes (Slice fuel)
      (scene (durable_of old replayed) disk source outlet) result
      (scene (durable_of (record new { store = store }) replayed) disk' source' outlet')
  carries_by store result same wanted worked = (
    worked.0,
    worked.1,
    λ m config guest promise stage p acts open_on next_act foretold.
        let c : Course = record {
          code = m;
          config = config;
          guest = guest;
          act = Slice fuel;
          first = old.process.steps;
        } in
        let ended = worked.2 c promise stage p refl refl
        (begins m config guest promise stage p acts old replayed fuel (medium disk) open_on
        next_act) foretold in (
          ended.0,
          ended.1,
          wanted guest p open_on.shows,
          call_carries medium c promise stage ended.0 worked.0 new store replayed disk disk'
              ended.2 worked.3 tt (same ended.0 ended.1),
        ),
    tt,
  )

  pub slice_carries : (why : Now)
      → WorksOn medium gives takes fuel (scene old disk source outlet) (Ok why)
      (scene new disk' source' outlet')
      → CallKeeps medium gives takes (Slice fuel)
      (scene (durable_of old replayed) disk source outlet) (Ok why)
      (scene (durable_of new replayed) disk' source' outlet')
  slice_carries why worked =
      carries_by new.store (Ok why) (λ reply is over. refl) (λ guest p shows. tt) worked

  pub slice_fails : (store : WorkerStore) (why : WorkFault)
      → SlicesOnDiskInVain gives takes old.process fuel why new.process (ports source outlet)
      (ports source' outlet')
      → WorksOn medium gives takes fuel (scene old disk source outlet) (Err why)
      (scene new disk' source' outlet')
      → CallKeeps medium gives takes (Slice fuel)
      (scene (durable_of old replayed) disk source outlet) (Err why)
      (scene (durable_of (record new { store = store }) replayed) disk' source' outlet')
  slice_fails store why failed worked =
      carries_by store (Err why)
      (λ reply is over. absurd (not_open is.0 (ap phase_ended (sym is.2) ∙ over)))
      (λ guest p shows.
      let k = failed guest p shows in
      let did = k.0 in
      wanted_memory guest p fuel did.exchanges did.steps did.process new.process why did.shows
      (λ is. subst (λ e. IsDiskCause guest p fuel did.exchanges did.steps did.process e) is k.1))
      worked
