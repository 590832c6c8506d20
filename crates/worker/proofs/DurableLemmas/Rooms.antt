-- Room on the disk for the next answer.
use Rattle.std.proofs.Common.{◌≡◌, ℕ, ◌+◌, ◌-◌, ◌*◌, ◌≤◌, List, [], length, refl}
use Rattle.std.proofs.Common.{sym, ap, ◌∙◌, subst, inl, inr, arith, false, take, drop}
use Rattle.std.proofs.lemmas.List.{append-nil}
use Rattle.wasi_abi.specs.declared.answer.Question.{Question}
use Rattle.process_rules.specs.Behind.{IsNarrowTo}
use Rattle.process_rules.specs.Processes.{ProcessState}
use Rattle.process_rules.specs.Runs.{Runs, none}
use Rattle.process.specs.rules.Values.{IsProcess}
use Rattle.sector_disk.specs.rules.Medium.{Medium}
use Rattle.state_image.specs.rules.Saving.{saved_of}
use Rattle.disk_layout.specs.declared.geometry.Geometry.{Geometry}
use Rattle.disk_layout.specs.declared.journal_sectors.TheConstants.{PAYLOAD_SIZE}
use Rattle.disk_layout.specs.rules.Journal.{longest_record, TakesRecords}
use Rattle.disk_layout.proofs.LongRecordLemmas.{journals_have_room}
use Rattle.journal.specs.rules.State.{JournalState, state}
use Rattle.record_replay.specs.rules.Calls.{Begun}
use Rattle.record_replay.proofs.Emitted.{released_whole}
use Rattle.worker_store.specs.restart_theorem.Lives.{Slice, Fails}
use Rattle.worker_store.specs.restart_theorem.Courses.{Stage, Open}
use Rattle.worker_store.specs.restart_theorem.Promises.{Promise}
use Rattle.worker_store.specs.restart_theorem.Holds.{StaysWithin}
use Rattle.worker_store.specs.rules.Savepoints.{Savepoint}
use Rattle.worker_store.specs.rules.Carried.{count_at, AreOnRecord}
use Rattle.worker_store.specs.laws.Turns.{GoesOnFrom}
use Rattle.worker_store.proofs.LawLemmas.Raising.{up_to_all, all_syncs_are_held, ended_carries}
use Rattle.worker_store.proofs.LawLemmas.Carrying.{begins_carried}
use Rattle.worker_store.proofs.LawLemmas.Saving.{next_held, save_carries, ends_promise_no_less}
use Rattle.worker_store.proofs.LawLemmas.TurnLemmas.{same_no_more}
use Rattle.worker_store.specs.declared.fault.StoreFault.{StoreFault}
use Rattle.worker_store.specs.declared.store.WorkerStore.{WorkerStore}
use Rattle.worker_store.specs.laws.Laws.{ProcessImagesFitAreas}
use Rattle.worker_store.specs.rules.Calls.{StoresNext}
use Rattle.worker_store.specs.rules.Stores.{IsStoreOf}
use Rattle.worker.specs.declared.running_worker.RunningWorker.{RunningWorker}
use Rattle.worker.specs.rules.WorkFaults.{fault_of_store}
use Rattle.worker.specs.rules.OpenWorkers.{IsOnDisk}
use Rattle.worker.specs.Savings.{HasSaveCause, LeavesFrontOrNext}
use Rattle.worker.specs.DurableTurns.{Course, IsAskingOn, HasRoom, MakesRoom, HoldsNoLine}
use Rattle.worker.specs.DurableTurns.{MakesNoRoom, TurnFails, slice_end, identity_of, running_on}
use Rattle.worker.proofs.SavingActLemmas.{CanSave, can_save, all_first, save_comes}
use Rattle.worker.proofs.DurableLemmas.OnDisk.{keeps_now, fewer_syncs, lowered_to, room_now}
use Rattle.worker.proofs.DurableLemmas.Bounds.{on_disk_still, saves_within}
use Rattle.worker.proofs.DurableLemmas.Ends.{fails_at_call, failed_end, broken_open}
use Rattle.worker.proofs.DurableLemmas.Ends.{carried_on, stays_on}
use Rattle.worker.proofs.DurableLemmas.Flushing.{with_store}

-- ---- there is room already

module _ {D : Type 0} (medium : D → Medium) where
  pub has_room : (w : RunningWorker) (disk : D) → HasRoom w
      → MakesRoom w w (medium disk) (medium disk)
  has_room w disk room c promise stage p question lines_held asking free =
      let running = asking.running in
      let is = running.on_disk in (
        record {
          running = record {
            opened = running.opened;
            texts = running.texts;
            shows = running.shows;
            module_is = running.module_is;
            told = running.told;
            counted = running.counted;
            queued = running.queued;
            way = running.way;
            began = running.began;
            on_disk = lowered_to medium c.code c.config c.guest promise p p.steps promise.events
                w.store disk is p.steps (promise.events + 1) (omega arith) (omega arith);
            synced = running.synced;
            abreast = running.abreast;
          };
          few = asking.few;
          none_waits = asking.none_waits;
          unended = asking.unended;
          wants = asking.wants;
          room = asking.room;
        },
        room,
        stays_on medium c promise disk running.opened
            (keeps_now medium c.code c.config c.guest promise p p.steps promise.events w.store disk
            is),
        on_disk_still medium c.code c.config c.guest promise p p.steps promise.events w.store disk
            is (promise.events + 1) (omega arith),
      )

-- ---- it is made

-- an empty journal has room for the longest record that it takes
enough : (long sectors used kept : ℕ) → long ≤ PAYLOAD_SIZE * sectors → used ≡ 0 → kept ≡ 0
    → long ≤ PAYLOAD_SIZE * (sectors - used) - kept
enough long sectors used kept room none_used none_kept =
    omega (arith, room, none_used, none_kept)

-- where there is none, no line is held
none_held : (w : RunningWorker) (lines_held : List Begun) → (HasRoom w → ⊥)
    → HoldsNoLine lines_held w
    → lines_held ≡ []
none_held w lines_held full (inl is) = is
none_held w lines_held full (inr room) = absurd (full room)

module _ {D : Type 0} (medium : D → Medium) (w : RunningWorker) (after : WorkerStore)
    (disk disk' : D) (fit : ProcessImagesFitAreas) (numbered : IsProcess w.process)
    (leaves : LeavesFrontOrNext w.store w.process (medium disk) (medium disk')) where
  module _ (c : Course) (promise : Promise) (stage : Stage) (p : ProcessState) (question : Question)
      (asking : IsAskingOn c promise stage p question promise.events
      (running_on [] w (medium disk))) where
    ready : CanSave c.code c.config c.guest promise p p.steps promise.events w.store (medium disk)
        asking.running.on_disk [] p w.process
    ready =
        let running = asking.running in
        can_save medium c.code c.config c.guest promise p p.steps promise.events w.store disk [] 0 p
        w.process running.on_disk none running.shows numbered running.module_is running.texts fit
        (room_now c.code c.config c.guest promise p p.steps promise.events w.store
        (medium disk) running.on_disk w.process running.shows)

    -- all lines were told
    heard : length p.host.lines ≤ promise.heard
    heard =
        let running = asking.running in
        let way = running.way in
        let told : w.process.host.released ≡ length p.host.lines =
        released_whole w.process c.guest p running.shows asking.none_waits in
        let few : running.told ≤ promise.heard = way.heard in
        let counted : running.told + 0 ≡ w.process.host.released = running.counted in
        omega (arith, told, few, counted)

    all_kept : take (length ready.next.front) promise.kept ≡ ready.next.front
    all_kept =
        let can = ready in
        all_first promise.kept can.next.front (can.all ∙ append-nil promise.kept)

    -- after all of them nothing widens
    widens_none : IsNarrowTo (drop (length ready.next.front) promise.kept) p.steps
    widens_none =
        up_to_all promise.kept ready.next.front p.steps (ready.all ∙ append-nil promise.kept)

    -- at any moment it is one generation on at most
    save_bounds : StaysWithin (promise.events + 1) (medium disk) (medium disk')
    save_bounds =
        let running = asking.running in
        let is = running.on_disk in
        let stores = is.stores in
        let next_is = ready.is_next in
        let early = is.early in
        saves_within c.code c.config is.point (promise.events + 1) (medium disk) (medium disk')
        stores.sectors ready.next is.records is.pending is.last next_is.comes
        (omega (arith, early))
        (leaves c.code c.config is.point ready.next is.records is.pending is.last is.now is.stores
        next_is.comes next_is.saved)

    save_in_vain : (fault : StoreFault)
        → HasSaveCause w.store w.process (medium disk) (medium disk') fault
        → TurnFails c promise stage (fault_of_store fault) [] (with_store w after) (medium disk)
        (medium disk')
    save_in_vain fault failed =
        let running = asking.running in
        let is = running.on_disk in
        let point = is.point in
        let can = ready in
        let next_is = can.is_next in
        let held : ℕ = length promise.kept in
        let why = save_comes c.code c.config c.guest promise p p.steps w.store (medium disk)
        (medium disk') is w.process can.fits fault failed in
        let told : w.process.steps ≡ p.steps = (let shows = running.shows in shows.steps) in
        let here : w.process.steps - 1 ≤ p.steps = omega (arith, told) in
        let later = ended_carries medium c.code c.config promise point w.store.journal is.records
        is.pending is.last is.now (Slice 0) (Fails why.cause) held (saved_of w.process) disk
        is.carried refl
        (λ count. refl)
        (fewer_syncs c.code c.config promise (count_at point is.records) p.steps
        (w.process.steps - 1) here is.syncs) in (
          why.cause,
          why.comes,
          fails_at_call medium c promise stage (with_store w after) disk disk' why.cause held
              running.opened
              (failed_end c promise stage p (with_store w after) Open held why.cause
              (broken_open c promise stage p _ _ [] w (medium disk) running) running.shows
              running.module_is why.may (why.bound p))
              (save_carries medium c.code c.config promise
              (slice_end promise (Fails why.cause) held w) point can.next w.store.journal
              is.records is.pending [] is.last is.now disk disk'
              (ends_promise_no_less promise (Slice 0) (Fails why.cause) held
              (saved_of w.process)) later
              (next_is.saves (slice_end promise (Fails why.cause) held w) all_kept
              widens_none heard)
              (leaves c.code c.config point can.next is.records is.pending is.last is.now is.stores
              next_is.comes next_is.saved))
              save_bounds,
        )

    module _ (stores : StoresNext w.store after w.process (medium disk) (medium disk')) where
      stored : IsStoreOf ready.next after [] [] ready.next.process ready.next.process
          (medium disk')
      stored =
          let running = asking.running in
          let is = running.on_disk in
          let next_is = ready.is_next in
          stores c.code c.config is.point ready.next is.records is.pending is.last is.now is.stores
          next_is.comes next_is.saved

      all_on_record : AreOnRecord promise ready.next []
      all_on_record =
          sym (append-nil promise.kept) ∙ sym ready.all ∙ sym (append-nil ready.next.front)

      save_goes : GoesOnFrom c.code c.config promise promise (medium disk) (medium disk')
      save_goes =
          let running = asking.running in
          let is = running.on_disk in
          let next_is = ready.is_next in
          carried_on medium c promise disk disk' running.opened
          (save_carries medium c.code c.config promise promise is.point ready.next w.store.journal
          is.records is.pending [] is.last is.now disk disk' (same_no_more promise) is.carried
          (next_is.saves promise all_kept widens_none heard)
          (leaves c.code c.config is.point ready.next is.records is.pending is.last is.now is.stores
          next_is.comes next_is.saved))

      saved_on : IsOnDisk (identity_of c) promise p p.steps (promise.events + 1) after
          (medium disk')
      saved_on =
          let running = asking.running in
          let is = running.on_disk in
          let can = ready in
          let next : Savepoint c.code c.config = can.next in
          let next_is = can.is_next in
          let comes = next_is.comes in
          let later : next.generation ≡ is.point.generation + 1 = comes.generation in
          let early : is.point.generation ≤ promise.events = is.early in
          let journaled = stored.journaled in
          record {
            point = next;
            same = can.same;
            records = [];
            pending = [];
            last = next.process;
            now = next.process;
            stores = stored;
            carried = begins_carried medium c.code c.config promise next after.journal disk'
                (next_held medium c.code c.config promise is.point next w.store.journal is.records
                is.pending [] is.last is.now disk is.carried
                (next_is.saves promise all_kept widens_none heard))
                journaled;
            on_record = all_on_record;
            n = 0;
            runs = subst (λ z. Runs c.guest next.process [] 0 z) next_is.process none;
            syncs = all_syncs_are_held c.code c.config promise next [] p.steps all_on_record;
            early = omega (arith, later, early);
          }

      room_after : after.journal
          ≡ state (saved_of w.process).version after.journal.generation 0 [] false
          → HasRoom (with_store w after)
      room_after fresh =
          let running = asking.running in
          let is = running.on_disk in
          let point = is.point in
          let settings = point.settings in
          let version : after.journal.version ≡ (saved_of w.process).version =
          ap (λ (j : JournalState). j.version) fresh in
          let takes : TakesRecords after.journal.version c.config.journal =
          subst (λ v. TakesRecords v c.config.journal) (sym version)
          (room_now c.code c.config c.guest promise p p.steps promise.events w.store
          (medium disk) is w.process running.shows) in
          let range = settings.in_range in
          let journal = range.journal in
          let sectors : after.geometry.journal_sectors ≡ c.config.journal =
          ap (λ (g : Geometry). g.journal_sectors) stored.geometry in
          let long : longest_record after.journal.version
          ≤ PAYLOAD_SIZE * after.geometry.journal_sectors =
          subst (λ n. longest_record after.journal.version ≤ PAYLOAD_SIZE * n) (sym sectors)
          (journals_have_room after.journal.version c.config.journal journal.0 takes) in
          let none_used : after.journal.used ≡ 0 =
          ap (λ (j : JournalState). j.used) fresh in
          let none_kept : length after.journal.kept ≡ 0 =
          ap (λ (j : JournalState). length j.kept) fresh in
          enough (longest_record after.journal.version) after.geometry.journal_sectors
          after.journal.used (length after.journal.kept) long none_used none_kept

  pub makes_no_room : (fault : StoreFault)
      → HasSaveCause w.store w.process (medium disk) (medium disk') fault
      → (HasRoom w → ⊥)
      → MakesNoRoom w (fault_of_store fault) (with_store w after) (medium disk) (medium disk')
  makes_no_room fault fails full c promise stage p question lines_held asking free =
      save_in_vain c promise stage p question
      (subst (λ (l : List Begun). IsAskingOn c promise stage p question promise.events
      (running_on l w (medium disk))) (none_held w lines_held full free) asking) fault fails

  pub makes_room : StoresNext w.store after w.process (medium disk) (medium disk')
      → after.journal ≡ state (saved_of w.process).version after.journal.generation 0 [] false
      → (HasRoom w → ⊥) → MakesRoom w (with_store w after) (medium disk) (medium disk')
  makes_room stores fresh full c promise stage p question lines_held asked free =
      let is_none = none_held w lines_held full free in
      let asking : IsAskingOn c promise stage p question promise.events
      (running_on [] w (medium disk)) =
      subst (λ (l : List Begun). IsAskingOn c promise stage p question promise.events
      (running_on l w (medium disk))) is_none asked in
      let running = asking.running in (
        subst (λ (l : List Begun). IsAskingOn c promise stage p question (promise.events + 1)
            (running_on l (with_store w after) (medium disk'))) (sym is_none) (record {
              running = record {
                opened = running.opened;
                texts = running.texts;
                shows = running.shows;
                module_is = running.module_is;
                told = running.told;
                counted = running.counted;
                queued = running.queued;
                way = running.way;
                began = running.began;
                on_disk = saved_on c promise stage p question asking stores;
                synced = running.synced;
                abreast = running.abreast;
              };
              few = asking.few;
              none_waits = asking.none_waits;
              unended = asking.unended;
              wants = asking.wants;
              room = asking.room;
            }),
        room_after c promise stage p question asking stores fresh,
        save_goes c promise stage p question asking stores,
        save_bounds c promise stage p question asking,
      )
