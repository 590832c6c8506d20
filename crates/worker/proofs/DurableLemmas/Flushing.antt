-- What is owed for a step: records on the disk, and then lines that are released.
use Rattle.std.proofs.Common.{◌≡◌, ℕ, suc, ◌+◌, ◌-◌, ◌≤◌, List, [], ◌++◌, length, drop}
use Rattle.std.proofs.Common.{refl, sym, ap, ◌∙◌, subst, arith, ◌∷◌, Ok, Err}
use Rattle.std.proofs.lemmas.List.{append-nil, drop_all}
use Rattle.process_rules.specs.Processes.{ProcessState}
use Rattle.process.specs.rules.Values.{HasReleased, ProcessValue, ShowsProcess, waiting_in}
use Rattle.sector_disk.specs.rules.Medium.{Medium}
use Rattle.state_image.specs.rules.Saving.{saved_of}
use Rattle.disk_layout.specs.rules.Journal.{Record}
use Rattle.record_replay.specs.declared.fault.OutletFault.{OutletFault}
use Rattle.record_replay.specs.rules.Calls.{Taking, Begun, Exchange, all_taken}
use Rattle.record_replay.specs.rules.Waiting.{ReleasesAll, ReleasesSome}
use Rattle.record_replay.proofs.Emitted.{released_whole}
use Rattle.worker_store.specs.restart_theorem.Lives.{Slice, Fails, OfDisk, OfOutlet}
use Rattle.worker_store.specs.restart_theorem.Courses.{Stage, Broken}
use Rattle.worker_store.specs.restart_theorem.Promises.{Promise}
use Rattle.worker_store.specs.restart_theorem.Holds.{StaysWithin}
use Rattle.worker_store.specs.rules.BetweenCalls.{IsForetold}
use Rattle.worker_store.specs.laws.Pieces.{AreDone}
use Rattle.worker_store.specs.laws.Telling.{AddsLines}
use Rattle.worker_store.specs.rules.Carried.{count_at, IsCarried, SyncsAreHeld, AreOnRecord}
use Rattle.worker_store.specs.laws.Turns.{GoesOnFrom, LeavesBegun}
use Rattle.worker_store.proofs.LawLemmas.Carrying.{carried_keeps, barrier_carries}
use Rattle.worker_store.proofs.LawLemmas.Carrying.{barrier_carries_on}
use Rattle.worker_store.proofs.LawLemmas.Raising.{all_syncs_are_held, ended_carries}
use Rattle.worker_store.proofs.LawLemmas.Saving.{ends_promise_no_less}
use Rattle.worker_store.proofs.LawLemmas.TurnLemmas.{told_still_holds, parts_leave_begun}
use Rattle.worker_store.proofs.LawLemmas.TurnLemmas.{turns_join}
use Rattle.worker_store.proofs.LawLemmas.TurnLemmas.{rests_go_on, lines_carry, same_no_more}
use Rattle.worker_store.specs.declared.fault.StoreFault.{StoreFault}
use Rattle.worker_store.specs.declared.fault.StoreFault.TheVariants as store
use Rattle.worker_store.specs.declared.store.WorkerStore.{WorkerStore}
use Rattle.worker_store.specs.rules.Calls.{LeavesFronts, StoresAll, BarrierFails}
use Rattle.worker_store.specs.rules.Stores.{IsStoreOf}
use Rattle.record_replay.specs.declared.slices.fault.SliceFault.TheVariants as slice
use Rattle.worker.specs.declared.fault.WorkFault.TheVariants.{Work}
use Rattle.worker.specs.declared.running_worker.RunningWorker.{RunningWorker}
use Rattle.worker.specs.rules.WorkFaults.{fault_of_store}
use Rattle.worker.specs.rules.OpenWorkers.{IsOnDisk, IsAbreast}
use Rattle.worker.specs.rules.DurableCalls.{ComesOf}
use Rattle.worker.specs.DurableTurns.{Course, to_tell, TurnFails, slice_end, told_lines_of}
use Rattle.worker.specs.DurableTurns.{FlushesTurn, identity_of, telling_scene}
use Rattle.worker.specs.BatchTurns.{FlushesAll, FlushesNot, IsTellingTurn, RefusesOne, TurnTells}
use Rattle.worker.proofs.AbreastLemmas.{abreast_on, told_changes_none}
use Rattle.worker.proofs.DurableLemmas.OnDisk.{reached_now, records_fit, fewer_syncs}
use Rattle.worker.proofs.DurableLemmas.Bounds.{fronts_within}
use Rattle.worker.proofs.DurableLemmas.Holding.{none_to_tell, cut_taken, waiting_refused}
use Rattle.worker.proofs.DurableLemmas.Telling.{telling_of, running_of, told_so, refused_so}
use Rattle.worker.proofs.DurableLemmas.Telling.{disk_ends}
use Rattle.worker.proofs.DurableLemmas.Ends.{ends_on, fails_at_call, failed_end}
use Rattle.worker.proofs.DurableLemmas.Ends.{carried_on, not_open}

-- ---- the barrier

-- a barrier of an open worker fails by the disk alone
barrier_comes : (c : Course) (promise : Promise) (p : ProcessState) (step latest : ℕ)
    (before : WorkerStore) (old new : Medium) (fault : StoreFault)
    → IsOnDisk (identity_of c) promise p step latest before old
    → BarrierFails before old new fault → ComesOf (fault_of_store fault) OfDisk
barrier_comes c promise p step latest before old new (store.Disk fault) is fails = refl
barrier_comes c promise p step latest before old new store.Full is fails =
    let room = records_fit c.code c.config c.guest promise p step latest before old is in
    let some = fails.0 in
    let full = fails.1 in
    absurd (omega (arith, some, full, room))
barrier_comes c promise p step latest before old new store.Failed is failed =
    let stores = is.stores in
    let works = stores.works in
    absurd (cc)
barrier_comes c promise p step latest before old new other is fails = absurd fails

-- the same worker with another store
abbrev pub with_store : RunningWorker → WorkerStore → RunningWorker
with_store w after = record w { store = after }

module _ {D : Type 0} (medium : D → Medium) (c : Course) (promise : Promise) (stage : Stage)
    (p : ProcessState) (lines_held : List Begun) (w : RunningWorker) (after : WorkerStore)
    (disk disk' : D) (owing : IsTellingTurn c promise stage p lines_held w (medium disk))
    (fronts : LeavesFronts w.store (medium disk) (medium disk')) where
  -- no image is of a later generation
  barrier_bounds : (later : ℕ) → promise.events ≤ later
      → StaysWithin later (medium disk) (medium disk')
  barrier_bounds later le =
      let is = owing.on_disk in
      let stores = is.stores in
      let early = is.early in
      fronts_within c.code c.config is.point later (medium disk) (medium disk') stores.sectors
      is.records is.pending is.last (omega (arith, early, le))
      (fronts c.code c.config is.point is.records is.pending is.last is.now is.stores)

  -- it fails
  pub barrier_in_vain : (fault : StoreFault)
      → BarrierFails w.store (medium disk) (medium disk') fault
      → TurnFails c promise stage (fault_of_store fault) [] (with_store w after) (medium disk)
      (medium disk')
  barrier_in_vain fault fails =
      let is = owing.on_disk in
      let point = is.point in
      let held : ℕ = length promise.kept in
      let told : w.process.steps ≡ p.steps = (let shows = owing.shows in shows.steps) in
      let here : w.process.steps - 1 ≤ p.steps - 1 = omega (arith, told) in
      let later = ended_carries medium c.code c.config promise point w.store.journal is.records
      is.pending is.last is.now (Slice 0) (Fails OfDisk) held (saved_of w.process) disk
      is.carried refl
      (λ count. refl)
      (fewer_syncs c.code c.config promise (count_at point is.records) (p.steps - 1)
      (w.process.steps - 1) here is.syncs) in (
        OfDisk,
        barrier_comes c promise p (p.steps - 1) promise.events w.store (medium disk)
            (medium disk') fault is fails,
        fails_at_call medium c promise stage (with_store w after) disk disk' OfDisk held
            owing.opened
            (disk_ends c promise stage p owing.told (with_store w after) owing.way owing.shows
            owing.module_is)
            (barrier_carries medium c.code c.config promise
            (slice_end promise (Fails OfDisk) held w) point w.store.journal is.records
            is.pending is.last is.now disk disk'
            (ends_promise_no_less promise (Slice 0) (Fails OfDisk) held
            (saved_of w.process)) later
            (fronts c.code c.config point is.records is.pending is.last is.now is.stores))
            (barrier_bounds (promise.events + 1) (omega arith)),
      )

  module _ (all : StoresAll w.store after (medium disk) (medium disk')) where
    stored : IsStoreOf owing.on_disk.point after
        (owing.on_disk.records ++ owing.on_disk.pending) [] owing.on_disk.now owing.on_disk.now
        (medium disk')
    stored = let is = owing.on_disk in
        all c.code c.config is.point is.records is.pending is.last is.now is.stores

    carried_all : IsCarried promise owing.on_disk.point after.journal
        (owing.on_disk.records ++ owing.on_disk.pending) [] owing.on_disk.now owing.on_disk.now
        (medium disk')
    carried_all = let is = owing.on_disk in
        barrier_carries_on medium c.code c.config promise is.point w.store.journal after.journal
        is.records is.pending is.last is.now disk disk' is.carried stored.journaled

    -- after it the part goes on
    barrier_goes : GoesOnFrom c.code c.config promise promise (medium disk) (medium disk')
    barrier_goes = let is = owing.on_disk in
        carried_on medium c promise disk disk' owing.opened
        (barrier_carries medium c.code c.config promise promise is.point w.store.journal is.records
        is.pending is.last is.now disk disk' (same_no_more promise) is.carried
        (fronts c.code c.config is.point is.records is.pending is.last is.now is.stores))

    -- ---- the lines

    module _ (promise' : Promise) (adds : AddsLines promise (length p.host.lines) promise') where
      lines_carried : IsCarried promise' owing.on_disk.point after.journal
          (owing.on_disk.records ++ owing.on_disk.pending) [] owing.on_disk.now owing.on_disk.now
          (medium disk')
      lines_carried =
          let is = owing.on_disk in
          let by = reached_now medium c.code c.config c.guest promise p (p.steps - 1)
          promise.events w.store disk is in
          lines_carry medium c.code c.config promise promise' is.point after.journal
          (is.records ++ is.pending) [] is.now is.now p p.steps disk' carried_all is.on_record
          by.reached adds

      -- all syncs are held now
      syncs_now : (step : ℕ) → SyncsAreHeld c.code c.config promise'.kept
          (count_at owing.on_disk.point (owing.on_disk.records ++ owing.on_disk.pending)) step
      syncs_now step =
          let is = owing.on_disk in
          all_syncs_are_held c.code c.config promise' is.point (is.records ++ is.pending) step
          (adds.kept ∙ is.on_record)

      goes_told : (stage' : Stage) → LeavesBegun promise promise' stage stage'
          → GoesOnFrom c.code c.config promise promise' (medium disk) (medium disk')
      goes_told stage' begun =
          turns_join medium c.code c.config promise promise promise' disk disk' disk' barrier_goes
          (rests_go_on medium c.code c.config promise promise' disk' owing.opened
          (begun.opened ∙ owing.opened) begun.no_more
          (told_still_holds c.code c.config promise promise' (length p.host.lines) adds)
          (carried_keeps medium c.code c.config promise' owing.on_disk.point after.journal
          (owing.on_disk.records ++ owing.on_disk.pending) [] owing.on_disk.now owing.on_disk.now
          disk' lines_carried))

      on_disk_told : promise.events ≤ promise'.events
          → IsOnDisk (identity_of c) promise' p p.steps promise'.events after
          (medium disk')
      on_disk_told more =
          let is = owing.on_disk in
          let whole : List Record = is.records ++ is.pending in
          let early = is.early in
          record {
            point = is.point;
            same = is.same;
            records = whole;
            pending = [];
            last = is.now;
            now = is.now;
            stores = stored;
            carried = lines_carried;
            on_record = subst (λ l. AreOnRecord promise' is.point l) (sym (append-nil whole))
                (adds.kept ∙ is.on_record);
            n = is.n;
            runs = is.runs;
            syncs = syncs_now p.steps;
            early = omega (arith, early, more);
          }

    module _ (w' : RunningWorker)
        (same_store : w'.store ≡ after) (same_says : w'.is_abreast ≡ w.is_abreast) where
      -- all lines are released
      pub lines_flushed : HasReleased (length (waiting_in w.process)) w.process w'.process
          → IsForetold stage (told_lines_of (to_tell lines_held w.process))
          → TurnTells c promise stage p (told_lines_of (to_tell lines_held w.process)) w'
          (medium disk) (medium disk')
      lines_flushed released foretold =
          let told = told_so c promise stage p owing.told (to_tell lines_held w.process)
          owing.queued owing.way foretold in
          let made = told.made in
          let leaves = parts_leave_begun c.code c.config promise made.promise' stage made.stage'
          (told_lines_of (to_tell lines_held w.process)) made.done in
          let shown = released.shows c.guest p owing.shows in
          let none_left : waiting_in w'.process ≡ [] =
          ap waiting_in released.is
          ∙ drop_all (length (waiting_in w.process)) (waiting_in w.process) (omega arith) in
          let adds = made.adds in
          record {
            promise' = made.promise';
            stage' = made.stage';
            done = made.done;
            onward = goes_told made.promise' made.adds made.stage' leaves;
            bounded = barrier_bounds made.promise'.events adds.events;
            telling = record {
              opened = leaves.opened ∙ owing.opened;
              texts = owing.texts;
              shows = shown;
              module_is = ap (λ (v : ProcessValue). v.machine.guest) released.is ∙ owing.module_is;
              told = length p.host.lines;
              counted = (let whole = released_whole w'.process c.guest p shown none_left in
                  let all : length p.host.lines + 0 ≡ w'.process.host.released =
                  omega (arith, whole) in all);
              queued = none_to_tell w'.process p.host.lines none_left;
              way = told.may;
              began = leaves.step ∙ owing.began;
              on_disk = subst (λ s. IsOnDisk (identity_of c) made.promise' p p.steps
                  made.promise'.events s (medium disk')) (sym same_store)
                  (on_disk_told made.promise' made.adds adds.events);
              synced = same_below made.promise'.synced promise.synced p.steps adds.synced
                  owing.synced;
              abreast = subst (λ says. IsAbreast made.promise' made.stage' p says)
                  (sym same_says)
                  (abreast_told made.promise' adds made.stage' made.done owing.abreast);
            };
            phase = told.phase;
          }
        where
          abreast_told : (promise' : Promise) → AddsLines promise (length p.host.lines) promise'
              → (stage' : Stage)
              → (done : AreDone c.code c.config promise stage (told_lines_of
              (to_tell lines_held w.process)) promise' stage')
              → IsAbreast promise stage p w.is_abreast → IsAbreast promise' stage' p w.is_abreast
          abreast_told promise' adds stage' done is =
              abreast_on promise promise' stage stage' p p w.is_abreast adds.begun (omega arith)
              (ap (λ (s : Stage). s.is_abreast) done.stage_is
              ∙ told_changes_none (to_tell lines_held w.process)
              (told_lines_of (to_tell lines_held w.process)) done.events stage done.are refl) is

          same_below : (a b n : ℕ) → a ≡ b → b ≤ n → a ≤ n
          same_below a b n e le = omega (arith, e, le)

      -- one is refused
      pub lines_in_vain : w'.process ≡ w.process → (front back : List Begun) (last : Begun)
          (fault : OutletFault) → to_tell lines_held w.process ≡ front ++ (last ∷ back)
          → IsForetold stage (told_lines_of (front ++ (record last { said = Err fault } ∷ [])))
          → TurnFails c promise stage (Work slice.Outlet)
          (told_lines_of (front ++ (record last { said = Err fault } ∷ []))) w' (medium disk)
          (medium disk')
      lines_in_vain same front back last fault are foretold =
          let begun : List Begun = front ++ (record last { said = Err fault } ∷ []) in
          let cut = cut_taken (suc owing.told) (drop owing.told p.host.lines) front back last fault
          (sym owing.queued ∙ are) in
          let told = refused_so c promise stage p owing.told begun cut.before cut.others cut.line
          cut.begun_is owing.way cut.are foretold in
          let made = told.made in
          let exchanges : List Exchange = told_lines_of begun in
          let leaves = parts_leave_begun c.code c.config promise made.promise' stage made.stage'
          exchanges made.done in
          let shown : ShowsProcess w'.process c.guest p =
          subst (λ v. ShowsProcess v c.guest p) (sym same) owing.shows in
          let module_is : w'.process.machine.guest ≡ c.code =
          ap (λ (v : ProcessValue). v.machine.guest) same ∙ owing.module_is in
          let adds = made.adds in
          let more = adds.events in
          let is = owing.on_disk in (
            OfOutlet,
            refl,
            ends_on medium c promise made.promise' stage made.stage' exchanges w' disk disk'
                (Fails OfOutlet) (length promise.kept) made.done
                (failed_end c made.promise' made.stage' p w' (Broken OfOutlet)
                (length promise.kept) OfOutlet told.broken shown module_is refl tt)
                (goes_told made.promise' made.adds made.stage' leaves)
                (barrier_bounds (made.promise'.events + 1) (omega (arith, more))) is.point
                after.journal
                (is.records ++ is.pending) [] is.now is.now
                (lines_carried made.promise' made.adds)
                (syncs_now made.promise' made.adds (w'.process.steps - 1))
                (λ e. absurd (not_open OfOutlet e)),
          )

-- ---- both

module _ {D O : Type 0} (medium : D → Medium) (takes : Taking O) (w : RunningWorker)
    (after : WorkerStore) (disk disk' : D)
    (fronts : LeavesFronts w.store (medium disk) (medium disk')) where
  -- whatever is held
  module _ (lines_held : List Begun) where
    pub flushes_not : (fault : StoreFault) (outlet : O)
        → BarrierFails w.store (medium disk) (medium disk') fault
        → FlushesNot medium takes lines_held (telling_scene w disk outlet) (fault_of_store fault)
        (telling_scene (with_store w after) disk' outlet)
    flushes_not fault outlet fails = (
      [],
      refl,
      λ c promise stage p telling foretold.
          barrier_in_vain medium c promise stage p lines_held w after disk disk' telling fronts
          fault fails,
    )

    module _ (all : StoresAll w.store after (medium disk) (medium disk')) (w' : RunningWorker)
        (same_store : w'.store ≡ after) (same_says : w'.is_abreast ≡ w.is_abreast) where
      pub flushes_queue : HasReleased (length (waiting_in w.process)) w.process w'.process
          → FlushesAll lines_held w w' (medium disk) (medium disk')
      flushes_queue released c promise stage p telling foretold =
          lines_flushed medium c promise stage p lines_held w after disk disk' telling fronts all
          w' same_store same_says released foretold

      pub refuses_queue : (outlet outlet' : O) → w'.process ≡ w.process
          → RefusesOne takes (to_tell lines_held w.process) outlet outlet'
          → FlushesNot medium takes lines_held (telling_scene w disk outlet) (Work slice.Outlet)
          (telling_scene w' disk' outlet')
      refuses_queue outlet outlet' same h = (
        h.0 ++ (record h.1 { said = Err h.3 } ∷ []),
        h.5,
        λ c promise stage p telling foretold.
            lines_in_vain medium c promise stage p lines_held w after disk disk' telling fronts all
            w' same_store same_says same h.0 h.2 h.1 h.3 h.4 foretold,
      )

  -- where none is
  pub flush_not_stored : (fault : StoreFault) (outlet : O)
      → BarrierFails w.store (medium disk) (medium disk') fault
      → FlushesTurn takes w (Err (fault_of_store fault)) (with_store w after) (medium disk)
      (medium disk') outlet outlet
  flush_not_stored fault outlet fails =
      let none = flushes_not [] fault outlet fails in (
        none.0,
        none.1,
        λ c promise stage p owing foretold.
            none.2 c promise stage p
            (telling_of c promise stage p (p.steps - 1) promise.events [] w (medium disk) owing)
            foretold,
      )

  module _ (all : StoresAll w.store after (medium disk) (medium disk')) (w' : RunningWorker)
      (outlet outlet' : O) (same_store : w'.store ≡ after)
      (same_says : w'.is_abreast ≡ w.is_abreast) where
    pub flushes_all : ReleasesAll takes w.process w'.process outlet outlet'
        → FlushesTurn takes w (Ok tt) w' (medium disk) (medium disk') outlet outlet'
    flushes_all released = (
      all_taken (suc w.process.host.released) (waiting_in w.process),
      released.told,
      λ c promise stage p owing foretold.
          let tells = flushes_queue [] all w' same_store same_says released.released c promise stage
          p (telling_of c promise stage p (p.steps - 1) promise.events [] w (medium disk) owing)
          foretold in
          let way = owing.way in
          record {
            promise' = tells.promise';
            stage' = tells.stage';
            process = p;
            done = tells.done;
            onward = tells.onward;
            bounded = tells.bounded;
            running = running_of c tells.promise' tells.stage' p p.steps tells.promise'.events [] w'
                (medium disk') (tells.phase ∙ way.is_open) tells.telling;
          },
    )

    pub flushes_some : ReleasesSome takes w.process w'.process outlet outlet'
        → FlushesTurn takes w (Err (Work slice.Outlet)) w' (medium disk) (medium disk') outlet
        outlet'
    flushes_some some =
        let refused = refuses_queue [] all w' same_store same_says outlet outlet' some.same
        (waiting_refused takes [] w.process outlet outlet outlet' w'.process refl some) in (
          refused.0,
          refused.1,
          λ c promise stage p owing foretold.
              refused.2 c promise stage p
              (telling_of c promise stage p (p.steps - 1) promise.events [] w (medium disk) owing)
              foretold,
        )
