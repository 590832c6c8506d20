-- The turns of a batch of a worker on its disk, one after another.
use Rattle.std.proofs.Common.{◌≡◌, ℕ, ◌+◌, ◌-◌, ◌≤◌, ◌<◌, ◌*◌, List, [], ◌++◌, length, refl, sym}
use Rattle.std.proofs.Common.{ap, ◌∙◌, subst, arith, true, false, Ok, Err, length-append}
use Rattle.std.specs.Prelude.{Result, ◌≢◌, None}
use Rattle.wasi_abi.specs.declared.answer.Question.{Question}
use Rattle.process_rules.specs.Processes.{ProcessState}
use Rattle.process.specs.declared.fault.ProcessFault.{ProcessFault}
use Rattle.process.specs.declared.fault.ProcessFault.TheVariants as stop
use Rattle.process.specs.declared.stop.ProcessEnd.{ProcessEnd}
use Rattle.process.specs.declared.stop.Stop.TheVariants as stops
use Rattle.process.specs.rules.Stops.{AdvancesProcess}
use Rattle.process.specs.rules.Values.{HasReleased, ProcessValue, waiting_in, ending_of}
use Rattle.sector_disk.specs.rules.Medium.{Medium, CallsUpTo}
use Rattle.record_replay.specs.rules.Calls.{Giving, Taking, Begun, Exchange, Exchanges, Releases}
use Rattle.record_replay.proofs.Following.{exchanges_join}
use Rattle.worker_store.specs.restart_theorem.Lives.{Act, Batch, Reply, Spent, Over, Fails}
use Rattle.worker_store.specs.restart_theorem.Lives.{OfMemory, OfBounds}
use Rattle.worker_store.specs.restart_theorem.Courses.{Stage, IsInBatch}
use Rattle.worker_store.specs.restart_theorem.Promises.{Promise, fuel_of}
use Rattle.worker_store.specs.laws.Acts.{most_held}
use Rattle.worker_store.specs.rules.BetweenCalls.{IsForetold}
use Rattle.worker_store.proofs.LawLemmas.Pieces.{parts_are_foretold}
use Rattle.worker_store.specs.declared.store.WorkerStore.{WorkerStore}
use Rattle.record_replay.specs.declared.slices.now.Now.{Now}
use Rattle.record_replay.specs.declared.slices.now.Now.TheVariants as now
use Rattle.record_replay.specs.declared.slices.fault.SliceFault.TheVariants as slice
use Rattle.record_replay.specs.rules.Refusals.{slice_fault}
use Rattle.worker.specs.declared.fault.WorkFault.{WorkFault}
use Rattle.worker.specs.declared.fault.WorkFault.TheVariants.{Work}
use Rattle.worker.specs.declared.running_worker.RunningWorker.{RunningWorker}
use Rattle.worker.specs.rules.CallCounts.{most_calls, most_saving, CallsForEvents}
use Rattle.worker.specs.rules.DurableCalls.{IsReplyOf}
use Rattle.worker.specs.StoreTurns.{owed, PaysCalls}
use Rattle.worker.specs.DurableTurns.{Course, TurnEnds, TurnFails, told_lines_of, to_tell}
use Rattle.worker.specs.DurableTurns.{HoldsNoLine, running_on, asking_scene, telling_scene}
use Rattle.worker.specs.BatchTurns.{IsTellingTurn, TurnTells, FlushesAll, FlushesNot, TurnComes}
use Rattle.worker.specs.BatchTurns.{BeginsBatch, PaidSoFar, AsksHolding, StopsAt}
use Rattle.worker.proofs.CallCountLemmas.{turns_then, turns_end, turn_once, turn_free, turn_last}
use Rattle.worker.proofs.CallCountLemmas.{owed_within}
use Rattle.worker.proofs.DurableLemmas.OnDisk.{keeps_now}
use Rattle.worker.proofs.DurableLemmas.Bounds.{on_disk_still}
use Rattle.worker.proofs.DurableLemmas.Ends.{done_nothing, stays_on}
use Rattle.worker.proofs.DurableLemmas.Telling.{telling_of, running_of, in_batch}
use Rattle.worker.proofs.DurableLemmas.Stopping.{spent_stops, over_stops, memory_stops}
use Rattle.worker.proofs.DurableLemmas.Stopping.{numbers_stop}
use Rattle.worker.proofs.DurableLemmas.Advancing.{with_process, says_abreast, advance_owes}
use Rattle.worker.proofs.DurableLemmas.Advancing.{advance_holds, advance_asks, quiet_on}
use Rattle.worker.proofs.DurableLemmas.Advancing.{said_abreast, spent_all}
use Rattle.worker.proofs.DurableLemmas.Working.{told_alone, asked_alone, nothing_alone}
use Rattle.worker.proofs.DurableLemmas.BatchParts.{RunsAt, OwesAt, AsksAt, comes_after, comes_end}
use Rattle.worker.proofs.DurableLemmas.BatchParts.{comes_of_goes}
use Rattle.worker.proofs.DurableLemmas.BatchParts.{lowered, none_at, held_now, other_fails}

-- ---- a batch so far

-- what is known of its act
pub record IsOfBatch (c : Course) (old : RunningWorker) (fuel most : ℕ) : Type 0 where
  pub act : c.act ≡ Batch fuel most
  pub first : c.first ≡ old.process.steps

module _ {D S O : Type 0} (medium : D → Medium) (gives : Giving S) (takes : Taking O)
    (old : RunningWorker) (fuel most : ℕ) where
  -- these exchanges lead on to where it is so
  abbrev pub BatchComes : (Course → Promise → Stage → Type 0) → List Exchange → D → D → Type 0
  BatchComes State exchanges disk disk' =
      (c : Course) (promise : Promise) (stage : Stage) (p : ProcessState)
      → BeginsBatch c promise stage p (Batch fuel most) old (medium disk)
      → IsForetold stage exchanges
      → TurnComes c promise stage exchanges (medium disk) (medium disk') (State c)

  -- the exchanges so far
  abbrev pub BatchSoFar : (Course → Promise → Stage → Type 0) → RunningWorker → D → D → S → S → O
      → O
      → Type 0
  BatchSoFar State w disk disk' source source' outlet outlet' = (exchanges : List Exchange)
      × Exchanges gives takes source outlet exchanges source' outlet'
      × BatchComes State exchanges disk disk'
      × PaidSoFar (length exchanges) w (medium disk) (medium disk')

  -- and those of one that has failed
  abbrev pub BatchFailed : WorkFault → RunningWorker → D → D → S → S → O → O → Type 0
  BatchFailed why w disk disk' source source' outlet outlet' = (exchanges : List Exchange)
      × Exchanges gives takes source outlet exchanges source' outlet'
      × ((c : Course) (promise : Promise) (stage : Stage) (p : ProcessState)
      → BeginsBatch c promise stage p (Batch fuel most) old (medium disk)
      → IsForetold stage exchanges
      → TurnFails c promise stage why exchanges w (medium disk) (medium disk'))
      × CallsForEvents (length exchanges + 1) (medium disk) (medium disk')

  -- at its beginning
  pub batch_begins : (disk : D) (source : S) (outlet : O)
      → BatchSoFar (RunsAt [] old (medium disk)) old disk disk source source outlet outlet
  batch_begins disk source outlet = (
    [],
    nothing_alone gives takes source outlet,
    λ c promise stage p begins foretold.
        let between = begins.between in
        record {
          promise' = promise;
          stage' = stage;
          done = done_nothing c promise stage;
          onward = stays_on medium c promise disk between.opened
              (keeps_now medium c.code c.config c.guest promise p p.steps promise.events old.store
              disk between.on_disk);
          bounded = on_disk_still medium c.code c.config c.guest promise p p.steps promise.events
              old.store disk between.on_disk promise.events (omega arith);
          state = (p, between);
        },
    (let few = owed_within (medium disk).sectors old.store.journal.kept in omega (arith, few)),
  )

  -- nothing is exchanged, and the disk is left alone
  pub batch_still : (State Next : Course → Promise → Stage → Type 0) (w w' : RunningWorker)
      (disk mid : D) (s t : S) (o q : O) → w'.store ≡ w.store
      → BatchSoFar State w disk mid s t o q
      → ((c : Course) (promise : Promise) (stage : Stage) → IsOfBatch c old fuel most
      → State c promise stage → Next c promise stage)
      → BatchSoFar Next w' disk mid s t o q
  batch_still State Next w w' disk mid s t o q same so_far turn = (
    so_far.0,
    so_far.1,
    λ c promise stage p begins foretold.
        let a = so_far.2 c promise stage p begins foretold in
        record {
          promise' = a.promise';
          stage' = a.stage';
          done = a.done;
          onward = a.onward;
          bounded = a.bounded;
          state = turn c a.promise' a.stage'
              (record { act = begins.act; first = begins.first }) a.state;
        },
    subst (λ (k : WorkerStore). (medium mid).counted + owed (medium disk).sectors k.journal.kept
        ≤ (medium disk).counted + (medium disk).sectors
        + length so_far.0 * most_calls (medium disk).sectors) (sym same) so_far.3,
  )

  module _ (State : Course → Promise → Stage → Type 0) (w w' : RunningWorker) (disk mid disk' : D)
      (s t u : S) (o q r : O) (so_far : BatchSoFar State w disk mid s t o q) (ys : List Exchange)
      (more : Exchanges gives takes t q ys u r) where
    -- one more part
    pub batch_on : (Next : Course → Promise → Stage → Type 0)
        → ((c : Course) (promise : Promise) (stage : Stage) → IsOfBatch c old fuel most
        → State c promise stage → IsForetold stage ys
        → TurnComes c promise stage ys (medium mid) (medium disk') (Next c))
        → (medium disk').counted + owed (medium disk).sectors w'.store.journal.kept
        ≤ (medium mid).counted + owed (medium disk).sectors w.store.journal.kept
        + length ys * most_calls (medium disk).sectors
        → BatchSoFar Next w' disk disk' s u o r
    batch_on Next turn pays = (
      so_far.0 ++ ys,
      exchanges_join gives takes s u t o r q so_far.0 ys so_far.1 more,
      λ c promise stage p begins foretold.
          let first = parts_are_foretold c.code c.config promise promise stage stage so_far.0 ys
          foretold in
          let a = so_far.2 c promise stage p begins first.1 in
          let both = parts_are_foretold c.code c.config promise a.promise' stage a.stage' so_far.0
          ys foretold in
          comes_after medium c promise stage so_far.0 ys disk mid disk' a
          (turn c a.promise' a.stage' (record { act = begins.act; first = begins.first }) a.state
          (both.0 a.done)),
      turns_then (length so_far.0) (length ys) (length (so_far.0 ++ ys))
          (most_calls (medium disk).sectors) (medium disk).counted (medium mid).counted
          (medium disk').counted (medium disk).sectors
          (owed (medium disk).sectors w.store.journal.kept)
          (owed (medium disk).sectors w'.store.journal.kept) so_far.3 pays
          (length-append so_far.0 ys),
    )

    -- the last one
    pub batch_fails : (why : WorkFault)
        → ((c : Course) (promise : Promise) (stage : Stage) → IsOfBatch c old fuel most
        → State c promise stage → IsForetold stage ys
        → TurnFails c promise stage why ys w' (medium mid) (medium disk'))
        → (medium disk').counted ≤ (medium mid).counted
        + owed (medium disk).sectors w.store.journal.kept + most_saving (medium disk).sectors
        → BatchFailed why w' disk disk' s u o r
    batch_fails why turn pays = (
      so_far.0 ++ ys,
      exchanges_join gives takes s u t o r q so_far.0 ys so_far.1 more,
      λ c promise stage p begins foretold.
          let first = parts_are_foretold c.code c.config promise promise stage stage so_far.0 ys
          foretold in
          let a = so_far.2 c promise stage p begins first.1 in
          let both = parts_are_foretold c.code c.config promise a.promise' stage a.stage' so_far.0
          ys foretold in
          let last = turn c a.promise' a.stage'
          (record { act = begins.act; first = begins.first }) a.state (both.0 a.done) in (
            last.0,
            last.1,
            comes_end medium c promise stage so_far.0 ys disk mid disk' a w' (Fails last.0) last.2,
          ),
      turns_end (length so_far.0) (length ys) (length (so_far.0 ++ ys))
          (most_calls (medium disk).sectors) (medium disk).counted (medium mid).counted
          (medium disk').counted (medium disk).sectors
          (owed (medium disk).sectors w.store.journal.kept)
          (most_saving (medium disk).sectors) so_far.3
          (turn_last (length ys) (most_calls (medium disk).sectors) (medium mid).counted
          (medium disk').counted (owed (medium disk).sectors w.store.journal.kept)
          (most_saving (medium disk).sectors) pays) (length-append so_far.0 ys) (omega arith),
    )

  -- ---- lines are told

  -- whatever it is, where these lines may be told
  abbrev pub MayTellAt : (Course → Promise → Stage → Type 0) → List Begun → RunningWorker → D
      → Type 0
  MayTellAt State lines_held w mid = (c : Course) (promise : Promise) (stage : Stage)
      → State c promise stage
      → (p : ProcessState) × IsTellingTurn c promise stage p lines_held w (medium mid)

  module _ (State : Course → Promise → Stage → Type 0) (lines_held : List Begun)
      (w w' : RunningWorker) (disk mid disk' : D) (s t : S) (o q r : O)
      (so_far : BatchSoFar State w disk mid s t o q) (tell : MayTellAt State lines_held w mid)
      (long : (medium mid).sectors ≡ (medium disk).sectors) where
    batch_tells : (Next : Course → Promise → Stage → Type 0)
        → Releases takes q (to_tell lines_held w.process) r
        → FlushesAll lines_held w w' (medium mid) (medium disk')
        → PaysCalls {T = Unit {0}} (Ok tt) w.store w'.store (medium mid) (medium disk')
        → ((c : Course) (promise : Promise) (stage : Stage) (k : State c promise stage)
        → (tells : TurnTells c promise stage (tell c promise stage k).0
        (told_lines_of (to_tell lines_held w.process)) w' (medium mid) (medium disk'))
        → Next c tells.promise' tells.stage') → BatchSoFar Next w' disk disk' s t o r
    batch_tells Next released flushes pays next =
        batch_on State w w' disk mid disk' s t t o q r so_far
        (told_lines_of (to_tell lines_held w.process))
        (told_alone gives takes t q r (to_tell lines_held w.process) released) Next
        (λ c promise stage known k foretold.
        let tells = flushes c promise stage (tell c promise stage k).0 (tell c promise stage k).1
        foretold in
        record {
          promise' = tells.promise';
          stage' = tells.stage';
          done = tells.done;
          onward = tells.onward;
          bounded = tells.bounded;
          state = next c promise stage k tells;
        })
        (turn_free (length (told_lines_of (to_tell lines_held w.process)))
        (most_calls (medium disk).sectors) (medium mid).counted (medium disk').counted
        (owed (medium disk).sectors w.store.journal.kept)
        (owed (medium disk).sectors w'.store.journal.kept)
        (subst (λ (n : ℕ). (medium disk').counted + owed n w'.store.journal.kept
        ≤ (medium mid).counted + owed n w.store.journal.kept) long pays))

    pub batch_tells_not : (why : WorkFault)
        → FlushesNot medium takes lines_held (telling_scene w mid q) why (telling_scene w' disk' r)
        → PaysCalls {T = Unit {0}} (Err why) w.store w'.store (medium mid) (medium disk')
        → BatchFailed why w' disk disk' s t o r
    batch_tells_not why flushes pays =
        batch_fails State w w' disk mid disk' s t t o q r so_far (told_lines_of flushes.0)
        (told_alone gives takes t q r flushes.0 flushes.1) why
        (λ c promise stage known k foretold.
        flushes.2 c promise stage (tell c promise stage k).0 (tell c promise stage k).1 foretold)
        (let paid = subst (λ (n : ℕ). (medium disk').counted
        ≤ (medium mid).counted + owed n w.store.journal.kept) long pays in omega (arith, paid))

  owes_tells : (lines_held : List Begun) (w : RunningWorker) (mid : D)
      → MayTellAt (OwesAt lines_held w (medium mid)) lines_held w mid
  owes_tells lines_held w mid c promise stage k = (
    k.0,
    telling_of c promise stage k.0 (k.0.steps - 1) promise.events lines_held w (medium mid) k.1,
  )

  asks_tells : (question : Question) (lines_held : List Begun) (w : RunningWorker) (mid : D)
      → MayTellAt (AsksAt question lines_held w (medium mid)) lines_held w mid
  asks_tells question lines_held w mid c promise stage k =
      let running = k.1.running in (
        k.0,
        lowered medium c promise stage k.0 lines_held w mid
            (telling_of c promise stage k.0 k.0.steps promise.events lines_held w (medium mid)
            running),
      )

  stops_tells : (result : Result Now WorkFault) (lines_held : List Begun) (w : RunningWorker)
      (mid : D) → MayTellAt (StopsAt medium result (running_on lines_held w (medium mid)))
      lines_held w mid
  stops_tells result lines_held w mid c promise stage k =
      let stopped = k.2 in
      (k.0, lowered medium c promise stage k.0 lines_held w mid stopped.telling)

  -- for the last step
  module _ (lines_held : List Begun) (w w' : RunningWorker) (disk mid disk' : D) (s t : S)
      (o q r : O) (so_far : BatchSoFar (OwesAt lines_held w (medium mid)) w disk mid s t o q)
      (long : (medium mid).sectors ≡ (medium disk).sectors) where
    pub owing_told : Releases takes q (to_tell lines_held w.process) r
        → FlushesAll lines_held w w' (medium mid) (medium disk')
        → PaysCalls {T = Unit {0}} (Ok tt) w.store w'.store (medium mid) (medium disk')
        → BatchSoFar (RunsAt [] w' (medium disk')) w' disk disk' s t o r
    unfolding owes_tells
    owing_told released flushes pays =
        batch_tells (OwesAt lines_held w (medium mid)) lines_held w w' disk mid disk' s t o q r
        so_far (owes_tells lines_held w mid) long (RunsAt [] w' (medium disk')) released flushes
        pays
        (λ c promise stage k tells.
        let way = k.1.way in (
          k.0,
          running_of c tells.promise' tells.stage' k.0 k.0.steps tells.promise'.events [] w'
              (medium disk') (tells.phase ∙ way.is_open) tells.telling,
        ))

    pub owing_untold : (why : WorkFault)
        → FlushesNot medium takes lines_held (telling_scene w mid q) why (telling_scene w' disk' r)
        → PaysCalls {T = Unit {0}} (Err why) w.store w'.store (medium mid) (medium disk')
        → BatchFailed why w' disk disk' s t o r
    owing_untold =
        batch_tells_not (OwesAt lines_held w (medium mid)) lines_held w w' disk mid disk' s t o q
        r so_far (owes_tells lines_held w mid) long

  -- before a question
  module _ (question : Question) (lines_held : List Begun) (w w' : RunningWorker)
      (disk mid disk' : D) (s t : S) (o q r : O)
      (so_far : BatchSoFar (AsksAt question lines_held w (medium mid)) w disk mid s t o q)
      (long : (medium mid).sectors ≡ (medium disk).sectors) where
    pub asking_told : w'.process ≡ w.process → Releases takes q (to_tell lines_held w.process) r
        → FlushesAll lines_held w w' (medium mid) (medium disk')
        → PaysCalls {T = Unit {0}} (Ok tt) w.store w'.store (medium mid) (medium disk')
        → BatchSoFar (AsksAt question [] w' (medium disk')) w' disk disk' s t o r
    unfolding asks_tells
    asking_told same released flushes pays =
        batch_tells (AsksAt question lines_held w (medium mid)) lines_held w w' disk mid disk' s t
        o q r so_far (asks_tells question lines_held w mid) long
        (AsksAt question [] w' (medium disk')) released flushes pays
        (λ c promise stage k tells.
        let asking = k.1 in
        let running = asking.running in
        let way = running.way in
        let there = running_of c tells.promise' tells.stage' k.0 k.0.steps tells.promise'.events []
        w'
        (medium disk') (tells.phase ∙ way.is_open) tells.telling in
        let began = running.began in
        let begun = there.began in
        let room = asking.room in (
          k.0,
          record {
            running = there;
            few = none_at c;
            none_waits = ap waiting_in same ∙ asking.none_waits;
            unended = asking.unended;
            wants = asking.wants;
            room = omega (arith, room, began, begun);
          },
        ))

    pub asking_untold : (why : WorkFault)
        → FlushesNot medium takes lines_held (telling_scene w mid q) why (telling_scene w' disk' r)
        → PaysCalls {T = Unit {0}} (Err why) w.store w'.store (medium mid) (medium disk')
        → BatchFailed why w' disk disk' s t o r
    asking_untold =
        batch_tells_not (AsksAt question lines_held w (medium mid)) lines_held w w' disk mid disk'
        s t o q r so_far (asks_tells question lines_held w mid) long

  -- behind all turns
  module _ (result : Result Now WorkFault) (lines_held : List Begun) (w w' : RunningWorker)
      (disk mid disk' : D) (s t : S) (o q r : O)
      (so_far : BatchSoFar (StopsAt medium result (running_on lines_held w (medium mid)))
      w disk mid s t o q)
      (long : (medium mid).sectors ≡ (medium disk).sectors) where
    pub stopped_told : w'.is_abreast ≡ w.is_abreast
        → Releases takes q (to_tell lines_held w.process) r
        → FlushesAll lines_held w w' (medium mid) (medium disk')
        → PaysCalls {T = Unit {0}} (Ok tt) w.store w'.store (medium mid) (medium disk')
        → BatchSoFar (StopsAt medium result (running_on [] w' (medium disk'))) w' disk disk' s t o r
    unfolding stops_tells
    stopped_told says released flushes pays =
        batch_tells (StopsAt medium result (running_on lines_held w (medium mid))) lines_held w w'
        disk mid disk' s t o q r so_far (stops_tells result lines_held w mid) long
        (StopsAt medium result (running_on [] w' (medium disk'))) released flushes pays
        (λ c promise stage k tells.
        let stopped = k.2 in (
          k.0,
          k.1,
          record {
            telling = tells.telling;
            is_reply = stopped.is_reply;
            ends = λ promise' stage' v disk'' telling phase none_waits same_says.
                stopped.ends promise' stage' v disk'' telling (phase ∙ tells.phase) none_waits
                (same_says ∙ says);
          },
        ))

    pub stopped_untold : (why : WorkFault)
        → FlushesNot medium takes lines_held (telling_scene w mid q) why (telling_scene w' disk' r)
        → PaysCalls {T = Unit {0}} (Err why) w.store w'.store (medium mid) (medium disk')
        → BatchFailed why w' disk disk' s t o r
    stopped_untold =
        batch_tells_not (StopsAt medium result (running_on lines_held w (medium mid))) lines_held w
        w' disk mid disk' s t o q r so_far (stops_tells result lines_held w mid) long

  -- ---- steps

  module _ (lines_held : List Begun) (w : RunningWorker) (v : ProcessValue) (fuel_left : ℕ)
      (disk mid : D) (s t : S) (o q : O)
      (so_far : BatchSoFar (RunsAt lines_held w (medium mid)) w disk mid s t o q)
      (fuel_left_is : fuel_left ≡ fuel - (w.process.steps - old.process.steps))
      (same : v.host.released ≡ w.process.host.released)
      (same_guest : v.machine.guest ≡ w.process.machine.guest) where
    fuel_left_of : (c : Course) → IsOfBatch c old fuel most
        → fuel_left ≡ fuel_of c.act - (w.process.steps - c.first)
    fuel_left_of c known =
        fuel_left_is ∙ ap (λ n. fuel - (w.process.steps - n)) (sym known.first)
        ∙ ap (λ (a : Act). fuel_of a - (w.process.steps - c.first)) (sym known.act)

    pub owing_now : AdvancesProcess w.process fuel_left (Ok stops.Owes) v
        → BatchSoFar (OwesAt lines_held (with_process w v) (medium mid)) (with_process w v) disk
        mid s t o q
    owing_now advances =
        batch_still (RunsAt lines_held w (medium mid))
        (OwesAt lines_held (with_process w v) (medium mid)) w (with_process w v) disk mid s t o q
        refl so_far
        (λ c promise stage known k.
        let there = advance_owes medium c promise stage k.0 lines_held w v mid k.1 fuel_left
        (fuel_left_of c known) same same_guest advances in
        (there.process, there.owing))

    -- the lines that wait are held
    pub holding_now : AdvancesProcess w.process fuel_left (Ok stops.Owes) v
        → waiting_in v ≢ [] → v.ended ≡ None → (w' : RunningWorker)
        → HasReleased (length (waiting_in v)) v w'.process → w'.store ≡ w.store
        → w'.is_abreast ≡ w.is_abreast
        → BatchSoFar (RunsAt (to_tell lines_held v) w' (medium mid)) w' disk mid s t o q
    holding_now advances some alive w' released same_store same_says =
        batch_still (RunsAt lines_held w (medium mid))
        (RunsAt (to_tell lines_held v) w' (medium mid)) w w' disk mid s t o q same_store so_far
        (λ c promise stage known k.
        let there = advance_holds medium c promise stage k.0 lines_held w v mid k.1 fuel_left
        (fuel_left_of c known) same same_guest some alive advances in (
          there.process,
          held_now c promise stage there.process lines_held (with_process w v) w' (medium mid)
              there.between released same_store same_says,
        ))

    pub asking_now : length lines_held ≤ most - 1 → (question : Question)
        → AdvancesProcess w.process fuel_left (Ok (stops.Asks question)) v
        → BatchSoFar (AsksAt question lines_held (with_process w v) (medium mid))
        (with_process w v) disk mid s t o q
    asking_now few question advances =
        batch_still (RunsAt lines_held w (medium mid))
        (AsksAt question lines_held (with_process w v) (medium mid)) w (with_process w v) disk mid
        s t o q refl so_far
        (λ c promise stage known k.
        let there = advance_asks medium c promise stage k.0 lines_held w v mid k.1 fuel_left
        (fuel_left_of c known) same same_guest question
        (subst (λ (a : Act). length lines_held ≤ most_held a) (sym known.act) few) advances in
        (there.process, there.asking))

    pub spent_now : AdvancesProcess w.process fuel_left (Ok stops.Spent) v
        → BatchSoFar (StopsAt medium (Ok now.Spent)
        (running_on lines_held (with_process w v) (medium mid)))
        (with_process w v) disk mid s t o q
    spent_now advances =
        batch_still (RunsAt lines_held w (medium mid))
        (StopsAt medium (Ok now.Spent) (running_on lines_held (with_process w v) (medium mid))) w
        (with_process w v) disk mid s t o q refl so_far
        (λ c promise stage known k.
        let running = k.1 in
        let stop = advances c.guest k.0 running.shows in
        let come = stop.1 in
        let all : come.steps ≡ fuel_left = stop.2 in (
          come.process,
          Spent,
          spent_stops medium c promise stage come.process lines_held (with_process w v) mid
              (quiet_on medium c promise stage k.0 lines_held w v mid running fuel_left
              (fuel_left_of c known) same same_guest come (omega (arith, all)))
              (spent_all medium c promise stage k.0 lines_held w v mid running fuel_left
              (fuel_left_of c known) same same_guest come all) stop.3,
        ))

    pub over_now : (how : ProcessEnd)
        → AdvancesProcess w.process fuel_left (Ok (stops.Ended how)) v
        → BatchSoFar (StopsAt medium (Ok (now.Ended how))
        (running_on lines_held (says_abreast (with_process w v)) (medium mid)))
        (says_abreast (with_process w v)) disk mid s t o q
    over_now how advances =
        batch_still (RunsAt lines_held w (medium mid))
        (StopsAt medium (Ok (now.Ended how))
        (running_on lines_held (says_abreast (with_process w v)) (medium mid))) w
        (says_abreast (with_process w v)) disk mid s t o q refl so_far
        (λ c promise stage known k.
        let running = k.1 in
        let stop = advances c.guest k.0 running.shows in
        let come = stop.1 in (
          come.process,
          Over (ending_of how),
          over_stops medium c promise stage come.process lines_held
              (says_abreast (with_process w v)) mid
              (said_abreast medium c promise stage k.0 lines_held w v mid running fuel_left
              (fuel_left_of c known) same same_guest come stop.2 (ending_of how) stop.3) how stop.3
              refl,
        ))

    pub vain_now : (why : ProcessFault) → AdvancesProcess w.process fuel_left (Err why) v
        → BatchSoFar (StopsAt medium (Err (Work (slice_fault why)))
        (running_on lines_held (with_process w v) (medium mid))) (with_process w v) disk mid s t o q
    vain_now why advances =
        batch_still (RunsAt lines_held w (medium mid))
        (StopsAt medium (Err (Work (slice_fault why)))
        (running_on lines_held (with_process w v) (medium mid))) w (with_process w v) disk mid s t o
        q refl so_far
        (λ c promise stage known k. vain_stop c promise stage known k why advances)
      where
        vain_stop : (c : Course) (promise : Promise) (stage : Stage) → IsOfBatch c old fuel most
            → RunsAt lines_held w (medium mid) c promise stage → (why : ProcessFault)
            → AdvancesProcess w.process fuel_left (Err why) v
            → StopsAt medium (Err (Work (slice_fault why)))
            (running_on lines_held (with_process w v) (medium mid)) c promise stage
        vain_stop c promise stage known k stop.WrongAnswer advances =
            let running = k.1 in absurd (advances c.guest k.0 running.shows)
        vain_stop c promise stage known k stop.Memory advances =
            let running = k.1 in
            let halt = advances c.guest k.0 running.shows in
            let come = halt.1 in
            let less : come.steps < fuel_left = halt.2 in (
              come.process,
              Fails OfMemory,
              memory_stops medium c promise stage come.process lines_held (with_process w v) mid
                  (quiet_on medium c promise stage k.0 lines_held w v mid running fuel_left
                  (fuel_left_of c known) same same_guest come (omega (arith, less))),
            )
        vain_stop c promise stage known k stop.StepsSpent advances =
            let running = k.1 in
            let halt = advances c.guest k.0 running.shows in
            let come = halt.1 in
            let less : come.steps < fuel_left = halt.2 in (
              come.process,
              Fails OfBounds,
              numbers_stop medium c promise stage come.process lines_held (with_process w v) mid
                  (quiet_on medium c promise stage k.0 lines_held w v mid running fuel_left
                  (fuel_left_of c known) same same_guest come (omega (arith, less))) halt.4,
            )

  -- ---- questions

  module _ (question : Question) (lines_held : List Begun) (w w' : RunningWorker)
      (disk mid disk' : D) (s t u : S) (o q : O)
      (so_far : BatchSoFar (AsksAt question lines_held w (medium mid)) w disk mid s t o q)
      (free : HoldsNoLine lines_held w) (long : (medium mid).sectors ≡ (medium disk).sectors)
      (few : CallsUpTo (most_saving (medium mid).sectors) (medium mid) (medium disk')) where
    -- a question pays for one call each
    asked_pays : (ys : List Exchange) → length ys ≡ 1
        → (medium disk').counted + owed (medium disk).sectors w'.store.journal.kept
        ≤ (medium mid).counted + owed (medium disk).sectors w.store.journal.kept
        + length ys * most_calls (medium disk).sectors
    asked_pays ys one =
        let less = owed_within (medium disk).sectors w'.store.journal.kept in
        turn_once (length ys) (most_calls (medium disk).sectors) (medium mid).counted
        (medium disk').counted (owed (medium disk).sectors w.store.journal.kept)
        (owed (medium disk).sectors w'.store.journal.kept) (most_saving (medium mid).sectors) few
        (omega (arith, less, long)) (omega (arith, one))

    in_its_batch : (c : Course) (promise : Promise) (stage : Stage) → IsOfBatch c old fuel most
        → AsksAt question lines_held w (medium mid) c promise stage → IsInBatch stage.acts
    in_its_batch c promise stage known k =
        let running = k.1.running in
        let way = running.way in
        let at = way.in_slice in
        in_batch stage c.act at.acts fuel most at.slice known.act

    -- it has answered
    pub asked_on : AsksHolding medium gives question (asking_scene w mid t) (Ok true)
        (asking_scene w' disk' u)
        → BatchSoFar (RunsAt lines_held w' (medium disk')) w' disk disk' s u o q
    asked_on asks =
        batch_on (AsksAt question lines_held w (medium mid)) w w' disk mid disk' s t u o q q so_far
        asks.0 (asked_alone gives takes question asks.0 t u q asks.1)
        (RunsAt lines_held w' (medium disk'))
        (λ c promise stage known k foretold.
        comes_of_goes c promise stage asks.0 lines_held w' (medium mid) (medium disk')
        (asks.3 c promise stage k.0 lines_held k.1 (in_its_batch c promise stage known k) free
        foretold)) (asked_pays asks.0 asks.2)

    -- it has none
    pub asked_none : AsksHolding medium gives question (asking_scene w mid t) (Ok false)
        (asking_scene w' disk' u)
        → BatchSoFar (StopsAt medium (Ok now.Waiting) (running_on lines_held w' (medium disk')))
        w' disk disk' s u o q
    asked_none asks =
        batch_on (AsksAt question lines_held w (medium mid)) w w' disk mid disk' s t u o q q so_far
        asks.0 (asked_alone gives takes question asks.0 t u q asks.1)
        (StopsAt medium (Ok now.Waiting) (running_on lines_held w' (medium disk')))
        (λ c promise stage known k foretold.
        asks.3 c promise stage k.0 lines_held k.1 (in_its_batch c promise stage known k) free
        foretold) (asked_pays asks.0 asks.2)

    -- it has failed
    pub asked_fault : AsksHolding medium gives question (asking_scene w mid t)
        (Err (Work slice.Source)) (asking_scene w' disk' u)
        → BatchSoFar (StopsAt medium (Err (Work slice.Source))
        (running_on lines_held w' (medium disk')))
        w' disk disk' s u o q
    asked_fault asks =
        batch_on (AsksAt question lines_held w (medium mid)) w w' disk mid disk' s t u o q q so_far
        asks.0 (asked_alone gives takes question asks.0 t u q asks.1)
        (StopsAt medium (Err (Work slice.Source)) (running_on lines_held w' (medium disk')))
        (λ c promise stage known k foretold.
        asks.3 c promise stage k.0 lines_held k.1 (in_its_batch c promise stage known k) free
        foretold) (asked_pays asks.0 asks.2)

    -- or anything else
    pub asked_vainly : (why : WorkFault) → why ≢ Work slice.Source
        → AsksHolding medium gives question (asking_scene w mid t) (Err why)
        (asking_scene w' disk' u)
        → BatchFailed why w' disk disk' s u o q
    asked_vainly why other asks =
        batch_fails (AsksAt question lines_held w (medium mid)) w w' disk mid disk' s t u o q q
        so_far asks.0 (asked_alone gives takes question asks.0 t u q asks.1) why
        (λ c promise stage known k foretold.
        other_fails medium c promise stage asks.0 lines_held w' mid disk' why other
        (asks.3 c promise stage k.0 lines_held k.1 (in_its_batch c promise stage known k) free
        foretold)) (omega (arith, few, long))

  -- ---- its end

  -- it is over, by this reply
  abbrev pub BatchOver : Result Now WorkFault → RunningWorker → D → D → S → S → O → O → Type 0
  BatchOver result w disk disk' source source' outlet outlet' = (exchanges : List Exchange)
      × Exchanges gives takes source outlet exchanges source' outlet'
      × ((c : Course) (promise : Promise) (stage : Stage) (p : ProcessState)
      → BeginsBatch c promise stage p (Batch fuel most) old (medium disk)
      → IsForetold stage exchanges
      → (reply : Reply) × IsReplyOf result reply
      × TurnEnds c promise stage reply exchanges w (medium disk) (medium disk'))
      × CallsForEvents (length exchanges + 1) (medium disk) (medium disk')

  pub batch_over : (result : Result Now WorkFault) (w : RunningWorker) (disk disk' : D) (s t : S)
      (o q : O)
      → BatchSoFar (StopsAt medium result (running_on [] w (medium disk'))) w disk disk' s t o q
      → waiting_in w.process ≡ [] → BatchOver result w disk disk' s t o q
  batch_over result w disk disk' s t o q so_far none_waits = (
    so_far.0 ++ [],
    exchanges_join gives takes s t t o q q so_far.0 [] so_far.1 (nothing_alone gives takes t q),
    λ c promise stage p begins foretold.
        let first = parts_are_foretold c.code c.config promise promise stage stage so_far.0 []
        foretold in
        let a = so_far.2 c promise stage p begins first.1 in
        let k = a.state in
        let stopped = k.2 in
        let telling = stopped.telling in (
          k.1,
          stopped.is_reply,
          comes_end medium c promise stage so_far.0 [] disk disk' disk' a w k.1
              (stopped.ends a.promise' a.stage' w disk' telling refl none_waits refl),
        ),
    turns_end (length so_far.0) 0 (length (so_far.0 ++ [])) (most_calls (medium disk).sectors)
        (medium disk).counted (medium disk').counted (medium disk').counted (medium disk).sectors
        (owed (medium disk).sectors w.store.journal.kept) 0 so_far.3 (omega arith)
        (length-append so_far.0 []) (omega arith),
  )
