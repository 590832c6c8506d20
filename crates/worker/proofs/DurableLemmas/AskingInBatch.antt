-- The source is asked in a batch, where lines may be held.
use Rattle.std.proofs.Common.{◌≡◌, ℕ, ◌+◌, ◌≤◌, List, [], ◌++◌, refl, sym, ap, ◌∙◌, subst, inl, inr}
use Rattle.std.proofs.Common.{arith, Bool, true, false, Some, None, Ok, Err}
use Rattle.std.specs.Prelude.{Result, ◌≢◌}
use Rattle.std.proofs.lemmas.List.{append-nil}
use Rattle.wasi_abi.specs.declared.answer.Question.{Question}
use Rattle.wasi_abi.specs.declared.answer.Answer.{Answer}
use Rattle.wasi_abi.specs.rules.Answers.{Fits}
use Rattle.wasi_abi.specs.rules.Versions.{text_limit}
use Rattle.process_rules.specs.Processes.{ProcessState}
use Rattle.process.specs.declared.fault.ProcessFault.{ProcessFault}
use Rattle.process.specs.declared.fault.ProcessFault.TheVariants as stop
use Rattle.process.specs.rules.Stops.{GivesAnswer}
use Rattle.sector_disk.specs.rules.Medium.{Medium}
use Rattle.disk_layout.specs.rules.Journal.{Record}
use Rattle.record_replay.specs.declared.fault.SourceFault.{SourceFault}
use Rattle.record_replay.specs.rules.Calls.{Giving, Begun, Exchange}
use Rattle.worker_store.specs.restart_theorem.Lives.{Reply, Waits, Fails, SourceSaid, Cause}
use Rattle.worker_store.specs.restart_theorem.Lives.{OfSource, OfAnswer, kept_of_said}
use Rattle.worker_store.specs.restart_theorem.Courses.{Broken, Stage, Phase, MayFail, IsInBatch}
use Rattle.worker_store.specs.restart_theorem.Courses.{HasLastAsked, phase_asked}
use Rattle.worker_store.specs.restart_theorem.Promises.{Promise, IsFitting}
use Rattle.worker_store.specs.restart_theorem.Holds.{StaysWithin}
use Rattle.worker_store.specs.laws.CallEnds.{HasBound}
use Rattle.worker_store.specs.laws.Turns.{GoesOnFrom}
use Rattle.worker_store.specs.rules.BetweenCalls.{IsForetold}
use Rattle.worker_store.proofs.LawLemmas.TurnLemmas.{turns_join}
use Rattle.worker_store.proofs.LawLemmas.Underway.{lines_are_left}
use Rattle.worker_store.specs.declared.fault.StoreFault.{StoreFault}
use Rattle.worker_store.specs.declared.fault.StoreFault.TheVariants as store
use Rattle.worker_store.specs.declared.store.WorkerStore.{WorkerStore}
use Rattle.record_replay.specs.declared.slices.now.Now.{Now}
use Rattle.record_replay.specs.declared.slices.now.Now.TheVariants as now
use Rattle.record_replay.specs.declared.slices.fault.SliceFault.TheVariants as slice
use Rattle.record_replay.specs.rules.Refusals.{slice_fault}
use Rattle.worker.specs.declared.fault.WorkFault.{WorkFault}
use Rattle.worker.specs.declared.fault.WorkFault.TheVariants.{Work, Disk, Store, Upgrade}
use Rattle.worker.specs.declared.running_worker.RunningWorker.{RunningWorker}
use Rattle.worker.specs.rules.WorkFaults.{fault_of_store}
use Rattle.worker.specs.DurableTurns.{Course, IsAskingOn, TurnEnds, TurnFails, MakesRoom}
use Rattle.worker.specs.DurableTurns.{MakesNoRoom, asks_once, TakesOnRecord, TakesNone, LacksRecord}
use Rattle.worker.specs.DurableTurns.{IsNotTaken, IsMisfit, HearsBy, Hears, IsOfStoreFault}
use Rattle.worker.specs.DurableTurns.{running_on, asking_scene}
use Rattle.worker.specs.StoreTurns.{StoreHears}
use Rattle.worker.specs.BatchTurns.{IsToldTurn, IsStopped, StopsAt, TurnComes, AsksOn, AsksOne}
use Rattle.worker.specs.BatchTurns.{AsksHolding}
use Rattle.worker.proofs.StoreTurnLemmas.{append_hears}
use Rattle.worker.proofs.DurableLemmas.Bounds.{bounds_join, question_counts}
use Rattle.worker.proofs.DurableLemmas.Asking.{goes_behind, fails_behind}
use Rattle.worker.proofs.DurableLemmas.Hearing.{promise_once, stage_once, at_question, done_once}
use Rattle.worker.proofs.DurableLemmas.Hearing.{goes_once, bounds_still, carried_once, syncs_once}
use Rattle.worker.proofs.DurableLemmas.Hearing.{same_limit, lacks_record, not_taken, taken}
use Rattle.worker.proofs.DurableLemmas.Stopping.{waits_there, fails_there}

-- ---- a question that stops a batch

module _ {D : Type 0} (medium : D → Medium) (c : Course) (promise : Promise) (stage : Stage)
    (p : ProcessState) (question : Question) (lines_held : List Begun) (w : RunningWorker)
    (disk : D)
    (asking : IsAskingOn c promise stage p question (promise.events + 1)
    (running_on lines_held w (medium disk)))
    (says : w.is_abreast ≡ true) (batch : IsInBatch stage.acts) where
  -- lines are left to be told behind it
  left_behind : (said : SourceSaid) (fits : Bool) → HasLastAsked (phase_asked p.steps said fits)
      → kept_of_said said fits ≡ []
      → IsToldTurn c (promise_once promise p question said fits)
      (stage_once stage p question said fits) p lines_held w (medium disk)
  left_behind said fits last nothing =
      let running = asking.running in
      let is = running.on_disk in
      let few : promise.synced ≤ p.steps = running.synced in
      let none_more : promise.kept ++ kept_of_said said fits ≡ promise.kept =
      ap (λ l. promise.kept ++ l) nothing ∙ append-nil promise.kept in
      record {
        opened = running.opened;
        texts = running.texts;
        shows = running.shows;
        module_is = running.module_is;
        told = running.told;
        counted = running.counted;
        queued = running.queued;
        way = inr (lines_are_left c.code c.config c.guest promise stage c.act p question said fits
            (at_question medium c promise stage p question lines_held w disk asking says) batch
            last);
        began = running.began;
        on_disk = record {
          point = is.point;
          same = is.same;
          records = is.records;
          pending = is.pending;
          last = is.last;
          now = is.now;
          stores = is.stores;
          carried = carried_once medium c promise stage p question lines_held w disk asking says
              said fits;
          on_record = none_more ∙ is.on_record;
          n = is.n;
          runs = is.runs;
          syncs = syncs_once medium c promise stage p question lines_held w disk asking says said
              fits;
          early = is.early;
        };
        synced = omega (arith, few);
        abreast = (let so_far = running.abreast in
            record { none_beyond = so_far.none_beyond; says_so = λ abreast. says });
      }

  stops_once : (said : SourceSaid) (fits : Bool) (result : Result Now WorkFault) (reply : Reply)
      → IsFitting (text_limit p.host.version) question said fits
      → IsForetold stage (asks_once question said)
      → IsStopped medium c (promise_once promise p question said fits)
      (stage_once stage p question said fits) p result reply (running_on lines_held w (medium disk))
      → TurnComes c promise stage (asks_once question said) (medium disk) (medium disk)
      (StopsAt medium result (running_on lines_held w (medium disk)) c)
  stops_once said fits result reply fitting foretold stopped = record {
    promise' = promise_once promise p question said fits;
    stage' = stage_once stage p question said fits;
    done = done_once medium c promise stage p question lines_held w disk asking says said fits
        fitting foretold;
    onward = goes_once medium c promise stage p question lines_held w disk asking says said fits
        fitting foretold;
    bounded = bounds_still medium c promise stage p question lines_held w disk asking says
        (promise.events + 1) (omega arith);
    state = (p, reply, stopped);
  }

  -- there is no answer
  pub none_stops : IsForetold stage (asks_once question (Ok None))
      → TurnComes c promise stage (asks_once question (Ok None)) (medium disk) (medium disk)
      (StopsAt medium (Ok now.Waiting) (running_on lines_held w (medium disk)) c)
  none_stops foretold =
      let running = asking.running in
      let began = running.began in
      let room = asking.room in
      stops_once (Ok None) false (Ok now.Waiting) Waits tt foretold (record {
        telling = left_behind (Ok None) false tt refl;
        is_reply = refl;
        ends = λ promise' stage' w' disk' telling phase none_waits same_says.
            waits_there medium c promise' stage' p w' disk' telling phase none_waits
            asking.unended
            (let there = telling.began in omega (arith, room, began, there))
            (same_says ∙ says);
      })

  fails_later : (phase : Phase) (cause : Cause) → MayFail phase cause
      → ((promise' : Promise) → HasBound c.code c.config c.guest promise' p cause)
      → (promise' : Promise) (stage' : Stage) (w' : RunningWorker) (disk' : D)
      → IsToldTurn c promise' stage' p [] w' (medium disk') → stage'.phase ≡ phase
      → TurnEnds c promise' stage' (Fails cause) [] w' (medium disk') (medium disk')
  fails_later phase cause may bound promise' stage' w' disk' telling is =
      fails_there medium c promise' stage' p w' disk' telling cause
      (subst (λ (q : Phase). MayFail q cause) (sym is) may) (bound promise')

  -- the source fails
  pub fault_stops : (e : SourceFault) → IsForetold stage (asks_once question (Err e))
      → TurnComes c promise stage (asks_once question (Err e)) (medium disk) (medium disk)
      (StopsAt medium (Err (Work slice.Source)) (running_on lines_held w (medium disk)) c)
  fault_stops e foretold =
      stops_once (Err e) false (Err (Work slice.Source)) (Fails OfSource) tt foretold (record {
        telling = left_behind (Err e) false tt refl;
        is_reply = (OfSource, inl refl, refl);
        ends = λ promise' stage' w' disk' telling phase none_waits same_says.
            fails_later (Broken OfSource) OfSource refl (λ promise'. tt) promise' stage' w' disk'
            telling phase;
      })

  -- its answer doesn't fit
  pub misfit_stops : (a : Answer) (step : ℕ) (why : WorkFault) (w' : RunningWorker)
      → IsMisfit w question (record { step = step; answer = a }) why w'
      → IsForetold stage (asks_once question (Ok (Some a)))
      → TurnComes c promise stage (asks_once question (Ok (Some a))) (medium disk) (medium disk)
      (StopsAt medium (Err (Work slice.Source)) (running_on lines_held w (medium disk)) c)
  misfit_stops a step why w' h foretold =
      let limit = same_limit medium c promise stage p question lines_held w disk asking says in
      stops_once (Ok (Some a)) false (Err (Work slice.Source)) (Fails OfAnswer)
      (λ fits. h.misfits (subst (λ n. Fits n question a) limit fits)) foretold (record {
        telling = left_behind (Ok (Some a)) false tt refl;
        is_reply = (OfAnswer, inr refl, refl);
        ends = λ promise' stage' w' disk' telling phase none_waits same_says.
            fails_later (Broken OfAnswer) OfAnswer refl (λ promise'. tt) promise' stage' w' disk'
            telling phase;
      })

  -- an answer that fits is not a wrong one
  pub never_wrong : (a : Answer) (step : ℕ) (why : WorkFault) (w' : RunningWorker)
      (h : IsNotTaken w question (record { step = step; answer = a }) why w')
      → h.fault ≡ stop.WrongAnswer → ⊥
  never_wrong a step why w' h is =
      let running = asking.running in
      let limit = same_limit medium c promise stage p question lines_held w disk asking says in
      let given : GivesAnswer w.process a (Err stop.WrongAnswer) w'.process =
      subst (λ (f : ProcessFault). GivesAnswer w.process a (Err f) w'.process) is h.given in
      let refused = given c.guest p running.shows in
      refused.1 asking.none_waits asking.unended (
        question,
        asking.wants,
        subst (λ n. Fits n question a) (sym limit) h.fits,
      )

-- ---- behind a part without exchanges

stops_behind : {D : Type 0} (medium : D → Medium) (c : Course) (promise : Promise) (stage : Stage)
    (result : Result Now WorkFault) (exchanges : List Exchange) (lines_held : List Begun)
    (w : RunningWorker) (disk mid disk' : D)
    → GoesOnFrom c.code c.config promise promise (medium disk) (medium mid)
    → StaysWithin (promise.events + 1) (medium disk) (medium mid)
    → (turn : TurnComes c promise stage exchanges (medium mid) (medium disk')
    (StopsAt medium result (running_on lines_held w (medium disk')) c))
    → promise.events + 1 ≤ turn.promise'.events
    → TurnComes c promise stage exchanges (medium disk) (medium disk')
    (StopsAt medium result (running_on lines_held w (medium disk')) c)
stops_behind medium c promise stage result exchanges lines_held w disk mid disk' goes bounded turn
    counts = record {
      promise' = turn.promise';
      stage' = turn.stage';
      done = turn.done;
      onward = turns_join medium c.code c.config promise promise turn.promise' disk mid disk' goes
          turn.onward;
      bounded = bounds_join (promise.events + 1) turn.promise'.events (medium disk) (medium mid)
          (medium disk') counts bounded turn.bounded;
      state = turn.state;
    }

-- ---- any other fault

module _ {D : Type 0} (medium : D → Medium) (c : Course) (promise : Promise) (stage : Stage)
    (exchanges : List Exchange) (lines_held : List Begun) (w : RunningWorker) (disk disk' : D) where
  store_fails_on : (fault : StoreFault)
      → TurnFails c promise stage (fault_of_store fault) exchanges w (medium disk) (medium disk')
      → AsksOn medium (Err (fault_of_store fault)) c promise stage exchanges (medium disk)
      (running_on lines_held w (medium disk'))
  store_fails_on (store.Disk why) turn = turn
  store_fails_on store.Memory turn = turn
  store_fails_on store.Failed turn = turn
  store_fails_on store.Full turn = turn
  store_fails_on store.TooLong turn = turn
  store_fails_on store.TooBig turn = turn
  store_fails_on store.Damaged turn = turn
  store_fails_on (store.Layout why) turn = turn

  process_fails_on : (fault : ProcessFault) (why : WorkFault) → why ≡ Work (slice_fault fault)
      → (fault ≡ stop.WrongAnswer → ⊥) → TurnFails c promise stage why exchanges w (medium disk)
      (medium disk')
      → AsksOn medium (Err why) c promise stage exchanges (medium disk)
      (running_on lines_held w (medium disk'))
  process_fails_on stop.WrongAnswer why is right turn = absurd (right refl)
  process_fails_on stop.Memory why is right turn =
      subst (λ z. AsksOn medium (Err z) c promise stage exchanges (medium disk)
      (running_on lines_held w (medium disk'))) (sym is)
      (subst (λ z. TurnFails c promise stage z exchanges w (medium disk) (medium disk')) is turn)
  process_fails_on stop.StepsSpent why is right turn =
      subst (λ z. AsksOn medium (Err z) c promise stage exchanges (medium disk)
      (running_on lines_held w (medium disk'))) (sym is)
      (subst (λ z. TurnFails c promise stage z exchanges w (medium disk) (medium disk')) is turn)

asked_one : (question : Question) (said : SourceSaid) (result : Result Bool WorkFault)
    → AsksOne result (asks_once question said)
asked_one question said (Ok is_there) = refl
asked_one question said (Err (Work slice.Source)) = refl
asked_one question said (Err (Work slice.Outlet)) = tt
asked_one question said (Err (Work slice.Memory)) = tt
asked_one question said (Err (Work slice.Failed)) = tt
asked_one question said (Err (Work (slice.Refused why))) = tt
asked_one question said (Err (Disk why)) = tt
asked_one question said (Err (Store why)) = tt
asked_one question said (Err (Upgrade why)) = tt

store_asks_none : (fault : StoreFault) → AsksOne (Err (fault_of_store fault)) []
store_asks_none (store.Disk why) = tt
store_asks_none store.Memory = tt
store_asks_none store.Failed = tt
store_asks_none store.Full = tt
store_asks_none store.TooLong = tt
store_asks_none store.TooBig = tt
store_asks_none store.Damaged = tt
store_asks_none (store.Layout why) = tt

-- ---- the source is asked

module _ {D S : Type 0} (medium : D → Medium) (gives : Giving S) (old mid new : RunningWorker)
    (question : Question) (step : ℕ) (disk disk' : D) (source source' : S)
    (makes : MakesRoom old mid (medium disk) (medium disk')) (same : mid.process ≡ old.process)
    (says : mid.is_abreast ≡ true) (step_is : step ≡ old.process.steps + 1) where
  abbrev AsksSo : Result Bool WorkFault → Type 0
  AsksSo result =
      AsksHolding medium gives question (asking_scene old disk source) result
      (asking_scene new disk' source')

  fault_held : (e : SourceFault) → gives source question (Err e) source' → new ≡ mid
      → AsksSo (Err (Work slice.Source))
  fault_held e asked still = (
    asks_once question (Err e),
    (refl, asked),
    refl,
    λ c promise stage p lines_held asking batch free foretold.
        let made = makes c promise stage p question lines_held asking free in
        let turn = subst (λ w. TurnComes c promise stage (asks_once question (Err e))
        (medium disk') (medium disk') (StopsAt medium (Err (Work slice.Source))
        (running_on lines_held w (medium disk')) c)) (sym still)
        (fault_stops medium c promise stage p question lines_held mid disk' made.0 says batch e
        foretold) in
        stops_behind medium c promise stage (Err (Work slice.Source)) (asks_once question (Err e))
        lines_held new disk disk' disk' made.2 made.3 turn
        (question_counts c.code c.config promise turn.promise' stage turn.stage'
        (record { question = question; said = Err e }) turn.done),
  )

  none_held : gives source question (Ok None) source' → new ≡ mid → AsksSo (Ok false)
  none_held asked still = (
    asks_once question (Ok None),
    (refl, asked),
    refl,
    λ c promise stage p lines_held asking batch free foretold.
        let made = makes c promise stage p question lines_held asking free in
        let turn = subst (λ w. TurnComes c promise stage (asks_once question (Ok None))
        (medium disk') (medium disk') (StopsAt medium (Ok now.Waiting)
        (running_on lines_held w (medium disk')) c)) (sym still)
        (none_stops medium c promise stage p question lines_held mid disk' made.0 says batch
        foretold) in
        stops_behind medium c promise stage (Ok now.Waiting) (asks_once question (Ok None))
        lines_held new disk disk' disk' made.2 made.3 turn
        (question_counts c.code c.config promise turn.promise' stage turn.stage'
        (record { question = question; said = Ok None }) turn.done),
  )

  taken_held : (a : Answer) → gives source question (Ok (Some a)) source'
      → TakesOnRecord mid question (record { step = step; answer = a }) new → AsksSo (Ok true)
  taken_held a asked takes = (
    asks_once question (Ok (Some a)),
    (refl, asked),
    refl,
    λ c promise stage p lines_held asking batch free foretold.
        let made = makes c promise stage p question lines_held asking free in
        let running = asking.running in
        let shows = running.shows in
        let steps : old.process.steps ≡ p.steps = shows.steps in
        let turn = taken medium c promise stage p question lines_held mid disk' made.0 says a
        foretold step new (step_is ∙ ap (λ n. n + 1) steps) takes in
        goes_behind medium c promise stage (asks_once question (Ok (Some a))) new disk disk' disk'
        made.2 made.3 lines_held turn
        (question_counts c.code c.config promise turn.promise' stage turn.stage'
        (record { question = question; said = Ok (Some a) }) turn.done),
  )

  misfit_held : (a : Answer) (why : WorkFault) → gives source question (Ok (Some a)) source'
      → IsMisfit mid question (record { step = step; answer = a }) why new
      → AsksSo (Err (Work slice.Source))
  misfit_held a why asked h = (
    asks_once question (Ok (Some a)),
    (refl, asked),
    refl,
    λ c promise stage p lines_held asking batch free foretold.
        let made = makes c promise stage p question lines_held asking free in
        let turn = subst (λ w. TurnComes c promise stage (asks_once question (Ok (Some a)))
        (medium disk') (medium disk') (StopsAt medium (Err (Work slice.Source))
        (running_on lines_held w (medium disk')) c)) (sym h.same)
        (misfit_stops medium c promise stage p question lines_held mid disk' made.0 says batch a
        step why new h foretold) in
        stops_behind medium c promise stage (Err (Work slice.Source))
        (asks_once question (Ok (Some a))) lines_held new disk disk' disk' made.2 made.3 turn
        (question_counts c.code c.config promise turn.promise' stage turn.stage'
        (record { question = question; said = Ok (Some a) }) turn.done),
  )

  lacks_held : (a : Answer) (why : WorkFault) → gives source question (Ok (Some a)) source'
      → LacksRecord mid question (record { step = step; answer = a }) why new
      → AsksSo (Err why)
  lacks_held a why asked h = (
    asks_once question (Ok (Some a)),
    (refl, asked),
    asked_one question (Ok (Some a)) (Err why),
    λ c promise stage p lines_held asking batch free foretold.
        let made = makes c promise stage p question lines_held asking free in
        let turn = fails_behind medium c promise stage (asks_once question (Ok (Some a))) new disk
        disk' disk' made.2 made.3 why
        (lacks_record medium c promise stage p question lines_held mid disk' made.0 says a foretold
        step why new made.1 h) in
        subst (λ z. AsksOn medium (Err z) c promise stage (asks_once question (Ok (Some a)))
        (medium disk) (running_on lines_held new (medium disk'))) (sym h.is)
        (store_fails_on medium c promise stage (asks_once question (Ok (Some a))) lines_held new
        disk disk' h.fault
        (subst (λ z. TurnFails c promise stage z (asks_once question (Ok (Some a))) new
        (medium disk) (medium disk')) h.is turn)),
  )

  untaken_held : (a : Answer) (why : WorkFault) → gives source question (Ok (Some a)) source'
      → IsNotTaken mid question (record { step = step; answer = a }) why new → AsksSo (Err why)
  untaken_held a why asked h = (
    asks_once question (Ok (Some a)),
    (refl, asked),
    asked_one question (Ok (Some a)) (Err why),
    λ c promise stage p lines_held asking batch free foretold.
        let made = makes c promise stage p question lines_held asking free in
        process_fails_on medium c promise stage (asks_once question (Ok (Some a))) lines_held new
        disk disk' h.fault why h.is
        (never_wrong medium c promise stage p question lines_held mid disk' made.0 says batch a step
        why new h)
        (fails_behind medium c promise stage (asks_once question (Ok (Some a))) new disk disk' disk'
        made.2 made.3 why
        (not_taken medium c promise stage p question lines_held mid disk' made.0 says a foretold
        step why new h)),
  )

  untold : (a : Answer) (why : WorkFault) → gives source question (Ok (Some a)) source'
      → TakesNone mid question (record { step = step; answer = a }) why new → AsksSo (Err why)
  untold a why asked (inl misfits) =
      subst (λ z. AsksSo (Err z)) (sym misfits.is) (misfit_held a why asked misfits)
  untold a why asked (inr (inl lacks)) = lacks_held a why asked lacks
  untold a why asked (inr (inr none)) = untaken_held a why asked none

  hears_held : (said : SourceSaid) (result : Result Bool WorkFault)
      → gives source question said source' → HearsBy mid question step said result new
      → AsksSo result
  hears_held (Err e) result asked h = subst AsksSo (sym h.0) (fault_held e asked h.1)
  hears_held (Ok None) result asked h = subst AsksSo (sym h.0) (none_held asked h.1)
  hears_held (Ok (Some a)) (Ok is_there) asked h =
      subst (λ b. AsksSo (Ok b)) (sym h.0) (taken_held a asked h.1)
  hears_held (Ok (Some a)) (Err why) asked h = untold a why asked h

  pub asks_holding : (result : Result Bool WorkFault)
      → Hears gives mid question step result new source source' → AsksSo result
  asks_holding result h = hears_held h.said result h.asked h.hears

-- no room was made
pub asks_none_holding : {D S : Type 0} (medium : D → Medium) (gives : Giving S)
    (old new : RunningWorker) (question : Question) (why : WorkFault) (disk disk' : D) (source : S)
    → IsOfStoreFault why → MakesNoRoom old why new (medium disk) (medium disk')
    → AsksHolding medium gives question (asking_scene old disk source) (Err why)
    (asking_scene new disk' source)
asks_none_holding medium gives old new question why disk disk' source by none = (
  [],
  refl,
  subst (λ z. AsksOne (Err z) []) (sym by.1) (store_asks_none by.0),
  λ c promise stage p lines_held asking batch free foretold.
      subst (λ z. AsksOn medium (Err z) c promise stage [] (medium disk)
      (running_on lines_held new (medium disk')))
      (sym by.1)
      (store_fails_on medium c promise stage [] lines_held new disk disk' by.0
      (subst (λ z. TurnFails c promise stage z [] new (medium disk) (medium disk')) by.1
      (none c promise stage p question lines_held asking free))),
)

-- ---- a store that has heard its source fail

store_no_source : (fault : StoreFault) → fault_of_store fault ≢ Work slice.Source
store_no_source (store.Disk why) e = absurd (cc)
store_no_source store.Memory e = absurd (cc)
store_no_source store.Failed e = absurd (cc)
store_no_source store.Full e = absurd (cc)
store_no_source store.TooLong e = absurd (cc)
store_no_source store.TooBig e = absurd (cc)
store_no_source store.Damaged e = absurd (cc)
store_no_source (store.Layout why) e = absurd (cc)

one_fault : (a b : WorkFault) → ◌≡◌ {A = Result Bool WorkFault} (Err a) (Err b) → a ≡ b
one_fault a b e = cc

pub room_no_source : (why : WorkFault) → IsOfStoreFault why
    → ◌≡◌ {A = Result Bool WorkFault} (Err why) (Err (Work slice.Source)) → ⊥
room_no_source why by e =
    store_no_source by.0 (sym by.1 ∙ one_fault why (Work slice.Source) e)

hears_still : (a b : WorkerStore) → b ≡ a → StoreHears a b
hears_still a b same = record {
  stays = record {
    geometry = ap (λ (k : WorkerStore). k.geometry) same;
    generation = ap (λ (k : WorkerStore). k.journal.generation) same;
  };
  works = λ works. ap (λ (k : WorkerStore). k.journal.has_failed) same ∙ works;
}

takes_quietly : (mid new : RunningWorker) (question : Question) (r : Record) (why : WorkFault)
    → TakesNone mid question r why new → why ≡ Work slice.Source
    → StoreHears mid.store new.store
takes_quietly mid new question r why (inl h) is =
    hears_still mid.store new.store (ap (λ (w : RunningWorker). w.store) h.same)
takes_quietly mid new question r why (inr (inl h)) is =
    absurd (store_no_source h.fault (sym h.is ∙ is))
takes_quietly mid new question r why (inr (inr h)) is =
    append_hears mid.store new.store r (record {
      geometry = ap (λ (k : WorkerStore). k.geometry) h.appended;
      generation = ap (λ (k : WorkerStore). k.journal.generation) h.appended;
    }) h.appended

hears_by : (mid new : RunningWorker) (question : Question) (step : ℕ) (said : SourceSaid)
    (result : Result Bool WorkFault) → result ≡ Err (Work slice.Source)
    → HearsBy mid question step said result new → StoreHears mid.store new.store
hears_by mid new question step (Err e) result is h =
    hears_still mid.store new.store (ap (λ (w : RunningWorker). w.store) h.1)
hears_by mid new question step (Ok None) result is h =
    hears_still mid.store new.store (ap (λ (w : RunningWorker). w.store) h.1)
hears_by mid new question step (Ok (Some a)) (Ok is_there) is h = absurd (cc)
hears_by mid new question step (Ok (Some a)) (Err why) is h =
    takes_quietly mid new question (record { step = step; answer = a }) why h
    (one_fault why (Work slice.Source) is)

pub source_heard : {S : Type 0} (gives : Giving S) (mid new : RunningWorker) (question : Question)
    (step : ℕ) (result : Result Bool WorkFault) (source source' : S)
    → Hears gives mid question step result new source source'
    → result ≡ Err (Work slice.Source) → StoreHears mid.store new.store
source_heard gives mid new question step result source source' h is =
    hears_by mid new question step h.said result is h.hears
