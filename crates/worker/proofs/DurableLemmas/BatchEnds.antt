-- How a batch of a worker on its disk ends.
use Rattle.std.proofs.Common.{◌≡◌, ℕ, ◌+◌, List, [], ◌∷◌, ◌++◌, length, refl, sym, ap, ◌∙◌}
use Rattle.std.proofs.Common.{subst, arith, inl, inr, ⊎_elim, ◌⊎◌, Bool, true, false, Ok, Err}
use Rattle.std.specs.Prelude.{Result, IfErr, IfOk, ◌≢◌}
use Rattle.std.proofs.lemmas.List.{append-nil, map-append}
use Rattle.wasm_syntax.specs.declared.module.Module.{Module}
use Rattle.wasi_abi.specs.rules.Configs.{Settings}
use Rattle.process_rules.specs.Processes.{ProcessState, Guest}
use Rattle.process.specs.rules.Values.{ShowsProcess, waiting_in}
use Rattle.sector_disk.specs.rules.Medium.{Medium}
use Rattle.record_replay.specs.declared.line_list.NumberedLine.{NumberedLine}
use Rattle.record_replay.specs.rules.Calls.{Giving, Taking, Begun, Exchange, Exchanges, Released}
use Rattle.record_replay.specs.rules.Calls.{Releases, all_taken, ports}
use Rattle.record_replay.specs.rules.Waiting.{first_waiting}
use Rattle.record_replay.proofs.Emitted.{released_whole}
use Rattle.record_replay.proofs.Following.{leads_join}
use Rattle.worker_store.specs.restart_theorem.Lives.{Act, Batch, Reply, Fails}
use Rattle.worker_store.specs.restart_theorem.Courses.{Stage, Open, phase_ended}
use Rattle.worker_store.specs.restart_theorem.Promises.{Promise}
use Rattle.worker_store.proofs.LawLemmas.CallEnds.{slices_begin}
use Rattle.worker_store.specs.declared.store.WorkerStore.{WorkerStore}
use Rattle.record_replay.specs.declared.slices.now.Now.{Now}
use Rattle.record_replay.specs.declared.slices.now.Now.TheVariants.{Spent}
use Rattle.record_replay.specs.declared.slices.fault.SliceFault.TheVariants as slice
use Rattle.record_replay.specs.rules.Slices.{Slices}
use Rattle.record_replay.specs.Turns.{working}
use Rattle.worker.specs.declared.fault.WorkFault.{WorkFault}
use Rattle.worker.specs.declared.fault.WorkFault.TheVariants.{Work}
use Rattle.worker.specs.declared.running_worker.RunningWorker.{RunningWorker}
use Rattle.worker.specs.rules.Batches.{taking, BatchFails, HasUntakenAnswer, IsBatchCause}
use Rattle.worker.specs.rules.DurableCalls.{CallKeeps, IsReplyOf, WantedMemory}
use Rattle.worker.specs.rules.Scenes.{scene}
use Rattle.worker.specs.rules.DurableValues.{durable_of}
use Rattle.worker.specs.rules.OpenWorkers.{IsOpenOn}
use Rattle.worker.specs.DurableTurns.{Course, to_tell, running_on, telling_scene}
use Rattle.worker.specs.BatchTurns.{held_as_begun, EndsBatch, LeavesBatch, WorksInBatch, TellsRest}
use Rattle.worker.specs.BatchTurns.{MayTellRest, HasEnded, StopsAt, StopsInBatch, BeginsBatch}
use Rattle.worker.specs.BatchTurns.{holding}
use Rattle.worker.specs.StoreTurns.{HasTurnCause, StoreGoes, StoreStops, StoreRuns}
use Rattle.worker.proofs.StoreTurnLemmas.{goes_join, goes_stop, stops_join}
use Rattle.worker.proofs.DurableLemmas.Ends.{not_open}
use Rattle.worker.proofs.DurableLemmas.Holding.{none_to_tell}
use Rattle.worker.proofs.DurableLemmas.Working.{call_carries, wanted_memory}
use Rattle.worker.proofs.DurableLemmas.Batching.{BatchSoFar, BatchFailed, BatchOver, batch_over}
use Rattle.worker.proofs.DurableLemmas.Batching.{stopped_told, stopped_untold}
use Rattle.worker.proofs.DurableLemmas.Queueing.{slices_told, told_whole}
use Rattle.worker.proofs.DurableLemmas.BatchFaults.{untold_rest}
use Rattle.worker.proofs.DurableLemmas.InBatch.{nothing_released}

not_both_so : (b : Bool) → b ≡ true → b ≡ false → ⊥
not_both_so b set unset = absurd (cc)

module _ {D S O : Type 0} (medium : D → Medium) (gives : Giving S) (takes : Taking O)
    (old : RunningWorker) (fuel most : ℕ) where
  -- what has become of it in the end
  pub record IsFinished (result : Result Now WorkFault) (new : RunningWorker) (disk disk' : D)
      (source source' : S) (outlet outlet' : O) : Type 0 where
    pub over : BatchOver medium gives takes old fuel most result new disk disk' source source'
        outlet outlet'
    pub runs : StoreRuns result old.store new.store (medium disk) (medium disk')
    pub done : IfOk result (λ now. Slices gives takes (working old.process) fuel now
        (working new.process) (ports source outlet) (ports source' outlet'))
    pub failed : IfErr result (λ why. BatchFails gives takes old.process fuel why new.process
        (ports source outlet) (ports source' outlet'))

  -- it has failed
  over_by_fault : (why : WorkFault) (w : RunningWorker) (disk disk' : D) (s t : S) (o q : O)
      → BatchFailed medium gives takes old fuel most why w disk disk' s t o q
      → BatchOver medium gives takes old fuel most (Err why) w disk disk' s t o q
  over_by_fault why w disk disk' s t o q failed = (
    failed.0,
    failed.1,
    λ c promise stage p begins foretold.
        let k = failed.2 c promise stage p begins foretold in
        (Fails k.0, (k.0, k.1, refl), k.2),
    failed.3,
  )

  finished_by_fault : (why : WorkFault) (w : RunningWorker) (disk disk' : D) (s t : S) (o q : O)
      → BatchFailed medium gives takes old fuel most why w disk disk' s t o q
      → StoreStops old.store w.store why (medium disk) (medium disk')
      → BatchFails gives takes old.process fuel why w.process (ports s o) (ports t q)
      → IsFinished (Err why) w disk disk' s t o q
  finished_by_fault why w disk disk' s t o q failed stopped fails = record {
    over = over_by_fault why w disk disk' s t o q failed;
    runs = stopped;
    done = tt;
    failed = fails;
  }

  -- all its lines were told
  module _ (w : RunningWorker) (disk disk' : D) (s t : S) (o q : O)
      (kept : List NumberedLine) (released : Releases takes o (held_as_begun kept) q)
      (goes : StoreGoes old.store w.store (medium disk) (medium disk')) where
    finished_so : (result : Result Now WorkFault)
        → ◌≢◌ {A = Result Now WorkFault} result (Err (Work slice.Outlet))
        → StopsInBatch gives old.process fuel result w.process s t kept
        → IfErr result (λ why. (later : D) → HasTurnCause old.store (medium disk) (medium later)
        why)
        → BatchSoFar medium gives takes old fuel most
        (StopsAt medium result (running_on [] w (medium disk'))) w disk disk' s t o q
        → IsFinished result w disk disk' s t o q
    finished_so (Ok why) other stop cause so_far = record {
      over = batch_over medium gives takes old fuel most (Ok why) w disk disk' s t o q so_far
          stop.none_waits;
      runs = goes;
      done = slices_told gives takes old.process w.process fuel why s t o q kept stop.done released;
      failed = tt;
    }
    finished_so (Err why) other stop cause so_far = record {
      over = batch_over medium gives takes old fuel most (Err why) w disk disk' s t o q so_far
          stop.none_waits;
      runs = goes_stop old.store w.store (medium disk) (medium disk') goes why (cause disk');
      done = tt;
      failed = λ guest p shows.
          let k = stop.shown guest p shows in
          let did = k.0 in (
            kept,
            did,
            told_whole takes (HasUntakenAnswer guest p did.exchanges did.steps did.process)
                (held_as_begun kept) o q released why
                (λ e. other (ap (λ (z : WorkFault). Err z) e)),
            k.2,
          );
    }

  module _ (w w' : RunningWorker) (lines : List NumberedLine) (worked : Result Now WorkFault)
      (disk mid disk' : D) (s t : S) (o q r : O) (works : old.store.journal.has_failed ≡ false)
      (long : (medium mid).sectors ≡ (medium disk).sectors) where
    -- no line may be told
    ended_so : (exchanges : List Exchange) → Exchanges gives takes s o exchanges t q
        → (why : WorkFault) → worked ≡ Err why
        → EndsBatch medium gives takes (Batch fuel most) (scene old disk s o) why exchanges
        (scene (holding w lines) mid t q)
        → IsFinished worked w disk mid s t o q
    ended_so exchanges exchanged why is h =
        subst (λ z. IsFinished z w disk mid s t o q) (sym is)
        (finished_by_fault why w disk mid s t o q (exchanges, exchanged, h.1, h.2) h.4 h.3)

    ended_not : (why : WorkFault) → worked ≡ Err why → HasEnded why w → MayTellRest worked w → ⊥
    ended_not why is (inl refused) may =
        may.0 (is ∙ ap (λ (z : WorkFault). Err z) refused)
    ended_not why is (inr failed) may = not_both_so w.store.journal.has_failed failed may.1

    -- lines may be left
    module _ (exchanges : List Exchange) (exchanged : Exchanges gives takes s o exchanges t q)
        (h : LeavesBatch medium gives takes (Batch fuel most) (scene old disk s o) worked exchanges
        (scene (holding w lines) mid t q))
      where
        so_far : BatchSoFar medium gives takes old fuel most
            (StopsAt medium worked (running_on (held_as_begun lines) w (medium mid)))
            w disk mid s t o q
        so_far = (
          exchanges,
          exchanged,
          h.1,
          h.2,
        )

        all_told_already : lines ≡ [] → IsFinished worked w disk mid s t o q
        all_told_already none =
            let told = h.3 in
            let whole : told.0 ++ lines ≡ told.0 =
            ap (λ z. told.0 ++ z) none ∙ append-nil told.0 in
            finished_so w disk mid s t o q told.0 told.1 h.4 worked h.0
            (subst (λ z. StopsInBatch gives old.process fuel worked w.process s t z) whole told.2)
            h.5
            (subst (λ z. BatchSoFar medium gives takes old fuel most
            (StopsAt medium worked (running_on (held_as_begun z) w (medium mid)))
            w disk mid s t o q) none so_far)

        left_works : w.store.journal.has_failed ≡ false
        left_works = let goes = h.4 in goes.works works

        left_so : (result : Result Now WorkFault)
            → TellsRest medium takes worked (telling_scene (holding w lines) mid q) result
            (telling_scene w' disk' r)
            → IsFinished result w' disk disk' s t o r
        left_so result (inl already) =
            subst (λ z. IsFinished z w' disk disk' s t o r) (sym already.1)
            (subst (λ (k : RunningWorker). IsFinished worked k disk disk' s t o r) (sym already.2)
            (subst (λ d. IsFinished worked w disk d s t o r) (sym already.3)
            (subst (λ x. IsFinished worked w disk mid s t o x) (sym already.4) (⊎_elim
            (λ (none : lines ≡ []). all_told_already none)
            (λ (ended : (worked ≡ Err (Work slice.Outlet)) ⊎ (w.store.journal.has_failed ≡ true)).
            ⊎_elim
            (λ (refused : worked ≡ Err (Work slice.Outlet)). absurd (h.0 refused))
            (λ (failed : w.store.journal.has_failed ≡ true).
            absurd (not_both_so w.store.journal.has_failed failed left_works))
            ended) already.0))))
        left_so result (inr (inl rest)) =
            let told = h.3 in
            let stop = told.2 in
            let queue = rest.3 in
            let tells = queue.1 in
            let behind = tells.2 in
            let stays : w'.process ≡ w.process =
            nothing_released w.process w'.process stop.none_waits behind.released in
            let begun : List Begun = all_taken (first_waiting w.process) (waiting_in w.process) in
            let to_outlet : Releases takes q (to_tell (held_as_begun lines) w.process) r =
            leads_join (Released takes) q r tells.0 (held_as_begun lines) begun tells.1 behind.told
            in
            let only : to_tell (held_as_begun lines) w.process ≡ held_as_begun lines =
            ap (λ z. held_as_begun lines ++ all_taken (first_waiting w.process) z) stop.none_waits
            ∙ append-nil (held_as_begun lines) in
            let all : Releases takes o (held_as_begun (told.0 ++ lines)) r =
            subst (λ z. Releases takes o z r) (sym (map-append taking told.0 lines))
            (leads_join (Released takes) o r q (held_as_begun told.0) (held_as_begun lines) told.1
            (subst (λ z. Releases takes q z r) only to_outlet)) in
            subst (λ z. IsFinished z w' disk disk' s t o r) (sym rest.1)
            (finished_so w' disk disk' s t o r (told.0 ++ lines) all
            (goes_join old.store w.store (medium disk) (medium mid) h.4 w'.store (medium disk')
            rest.4) worked h.0
            (subst (λ z. StopsInBatch gives old.process fuel worked z s t (told.0 ++ lines))
            (sym stays) stop)
            h.5
            (stopped_told medium gives takes old fuel most worked (held_as_begun lines) w w' disk
            mid
            disk'
            s t o q r so_far long rest.2 to_outlet queue.2 rest.5))
        left_so result (inr (inr rest)) =
            let told = h.3 in
            let queue = rest.3 in
            subst (λ z. IsFinished z w' disk disk' s t o r) (sym rest.2)
            (finished_by_fault rest.1 w' disk disk' s t o r
            (stopped_untold medium gives takes old fuel most worked (held_as_begun lines) w w' disk
            mid
            disk' s t o q r so_far long rest.1 queue.2 rest.5)
            (stops_join old.store w.store (medium disk) (medium mid) h.4 w'.store rest.1
            (medium disk') rest.4)
            (untold_rest gives takes old.process w w'.process fuel s t o q r told.0 lines worked
            told.2
            left_works told.1 rest.1 queue.1))

    finish_by : (exchanges : List Exchange) → Exchanges gives takes s o exchanges t q
        → ((why : WorkFault) × (worked ≡ Err why)
        × EndsBatch medium gives takes (Batch fuel most) (scene old disk s o) why exchanges
        (scene (holding w lines) mid t q))
        ⊎ LeavesBatch medium gives takes (Batch fuel most) (scene old disk s o) worked exchanges
        (scene (holding w lines) mid t q) → (result : Result Now WorkFault)
        → TellsRest medium takes worked (telling_scene (holding w lines) mid q) result
        (telling_scene w' disk' r)
        → IsFinished result w' disk disk' s t o r
    finish_by exchanges exchanged (inl k) result (inl already) =
        subst (λ z. IsFinished z w' disk disk' s t o r) (sym already.1)
        (subst (λ (x : RunningWorker). IsFinished worked x disk disk' s t o r) (sym already.2)
        (subst (λ d. IsFinished worked w disk d s t o r) (sym already.3)
        (subst (λ x. IsFinished worked w disk mid s t o x) (sym already.4)
        (ended_so exchanges exchanged k.0 k.1 k.2))))
    finish_by exchanges exchanged (inl k) result (inr (inl rest)) =
        absurd (ended_not k.0 k.1 k.2.0 rest.0)
    finish_by exchanges exchanged (inl k) result (inr (inr rest)) =
        absurd (ended_not k.0 k.1 k.2.0 rest.0)
    finish_by exchanges exchanged (inr h) result rest = left_so exchanges exchanged h result rest

    pub finishes : WorksInBatch medium gives takes (Batch fuel most) (scene old disk s o) worked
        (scene (holding w lines) mid t q)
        → (result : Result Now WorkFault)
        → TellsRest medium takes worked (telling_scene (holding w lines) mid q) result
        (telling_scene w' disk' r)
        → IsFinished result w' disk disk' s t o r
    finishes h result rest = finish_by h.0 h.1 h.2 result rest

-- no line is beyond a worker that waits or has ended
pub rest_abreast : {D O : Type 0} (medium : D → Medium) (takes : Taking O)
    (worked : Result Now WorkFault) (w w' : RunningWorker) (lines : List NumberedLine)
    (mid disk' : D) (q r : O) (why : Now)
    → TellsRest medium takes worked (telling_scene (holding w lines) mid q) (Ok why)
    (telling_scene w' disk' r)
    → IfOk worked (λ now. now ≢ Spent → w.is_abreast ≡ true) → why ≢ Spent
    → w'.is_abreast ≡ true
rest_abreast medium takes worked w w' lines mid disk' q r why (inl already) abreast other =
    let here : IfOk {E = WorkFault} (Ok why) (λ now. now ≢ Spent → w.is_abreast ≡ true) =
    subst (λ (z : Result Now WorkFault). IfOk z (λ now. now ≢ Spent → w.is_abreast ≡ true))
    (sym already.1) abreast in
    ap (λ (k : RunningWorker). k.is_abreast) already.2 ∙ here other
rest_abreast medium takes worked w w' lines mid disk' q r why (inr (inl rest)) abreast other =
    let here : IfOk {E = WorkFault} (Ok why) (λ now. now ≢ Spent → w.is_abreast ≡ true) =
    subst (λ (z : Result Now WorkFault). IfOk z (λ now. now ≢ Spent → w.is_abreast ≡ true))
    (sym rest.1) abreast in
    rest.2 ∙ here other
rest_abreast medium takes worked w w' lines mid disk' q r why (inr (inr rest)) abreast other =
    absurd (let is = rest.2 in cc)

-- ---- what it has kept of what was promised

-- a worker that is open begins a batch
begins : (m : Module) (config : Settings) (guest : Guest) (promise : Promise) (stage : Stage)
    (p : ProcessState) (acts : List Act) (running : RunningWorker) (replayed fuel most : ℕ)
    (disk : Medium)
    → IsOpenOn m config guest promise stage p (durable_of running replayed) disk
    → stage.acts ≡ Batch fuel most ∷ acts
    → BeginsBatch (record {
      code = m;
      config = config;
      guest = guest;
      act = Batch fuel most;
      first = running.process.steps;
    }) promise stage p (Batch fuel most) running disk
begins m config guest promise stage p acts running replayed fuel most disk open_on next_act =
    let shows = open_on.shows in
    let between = open_on.between in
    record {
      act = refl;
      first = refl;
      between = record {
        opened = open_on.opened;
        texts = open_on.texts;
        shows = open_on.shows;
        module_is = open_on.module_is;
        told = length p.host.lines;
        counted = (let whole =
            released_whole running.process guest p open_on.shows open_on.none_waits in
            let all : length p.host.lines + 0 ≡ running.process.host.released =
            omega (arith, whole) in all);
        queued = none_to_tell running.process p.host.lines open_on.none_waits;
        way = slices_begin m config guest promise stage (Batch fuel most) acts p between next_act tt
            open_on.heard open_on.passed;
        began = between.step ∙ sym shows.steps;
        on_disk = open_on.on_disk;
        synced = open_on.synced;
        abreast = open_on.abreast;
      };
    }

module _ {D S O : Type 0} (medium : D → Medium) (gives : Giving S) (takes : Taking O)
    (old new : RunningWorker) (replayed fuel most : ℕ) (disk disk' : D) (source source' : S)
    (outlet outlet' : O) where
  carries_by : (store : WorkerStore) (result : Result Now WorkFault)
      → ((reply : Reply) → IsReplyOf result reply → phase_ended reply ≡ Open
      → store ≡ new.store)
      → ((guest : Guest) (p : ProcessState) → ShowsProcess old.process guest p
      → WantedMemory result guest new.process)
      → BatchOver medium gives takes old fuel most result new disk disk' source source' outlet
      outlet'
      → CallKeeps medium gives takes (Batch fuel most)
      (scene (durable_of old replayed) disk source outlet) result
      (scene (durable_of (record new { store = store }) replayed) disk' source' outlet')
  carries_by store result same wanted over = (
    over.0,
    over.1,
    λ m config guest promise stage p acts open_on next_act foretold.
        let c : Course = record {
          code = m;
          config = config;
          guest = guest;
          act = Batch fuel most;
          first = old.process.steps;
        } in
        let ended = over.2 c promise stage p
        (begins m config guest promise stage p acts old replayed fuel most (medium disk) open_on
        next_act) foretold in (
          ended.0,
          ended.1,
          wanted guest p open_on.shows,
          call_carries medium c promise stage ended.0 over.0 new store replayed disk disk'
              ended.2 over.3 tt (same ended.0 ended.1),
        ),
    tt,
  )

  pub batch_carries : (why : Now)
      → BatchOver medium gives takes old fuel most (Ok why) new disk disk' source source' outlet
      outlet'
      → CallKeeps medium gives takes (Batch fuel most)
      (scene (durable_of old replayed) disk source outlet) (Ok why)
      (scene (durable_of new replayed) disk' source' outlet')
  batch_carries why over =
      carries_by new.store (Ok why) (λ reply is ended. refl) (λ guest p shows. tt) over

  pub batch_fails : (store : WorkerStore) (why : WorkFault)
      → BatchFails gives takes old.process fuel why new.process (ports source outlet)
      (ports source' outlet')
      → BatchOver medium gives takes old fuel most (Err why) new disk disk' source source' outlet
      outlet'
      → CallKeeps medium gives takes (Batch fuel most)
      (scene (durable_of old replayed) disk source outlet) (Err why)
      (scene (durable_of (record new { store = store }) replayed) disk' source' outlet')
  batch_fails store why failed over =
      carries_by store (Err why)
      (λ reply is ended. absurd (not_open is.0 (ap phase_ended (sym is.2) ∙ ended)))
      (λ guest p shows.
      let k = failed guest p shows in
      let did = k.1 in
      wanted_memory guest p fuel did.exchanges did.steps did.process new.process why did.shows
      (λ is. subst (λ e. IsBatchCause guest p fuel did.exchanges did.steps did.process e) is k.3))
      over
