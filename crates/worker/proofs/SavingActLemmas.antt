-- An act that saves a worker, as an event of a life, and what its disk holds.
use Rattle.std.proofs.Common.{◌≡◌, ◌≢◌, ℕ, ◌+◌, ◌-◌, ◌*◌, ◌≤◌, ◌^◌, List, [], ◌∷◌, ◌++◌, ◌⊎◌}
use Rattle.std.proofs.Common.{length, Some, false, refl, sym, ap, ◌∙◌, subst, inl, inr, arith, take}
use Rattle.std.proofs.lemmas.List.{append-nil}
use Rattle.std.proofs.Math.Seq.{take-length}
use Rattle.std.specs.Prelude.{Result, Ok, Err}
use Rattle.wasm_syntax.specs.declared.module.Module.{Module}
use Rattle.wasi_abi.specs.declared.version.Version.TheVariants.{Two}
use Rattle.wasi_abi.specs.rules.Configs.{Settings}
use Rattle.wasi_calls_rules.specs.laws.Laws.{IsOfBytes}
use Rattle.process_rules.specs.Processes.{ProcessState, Guest, host_of}
use Rattle.process_rules.specs.Behind.{IsNarrowTo}
use Rattle.process_rules.specs.Runs.{Kept, Runs, Reaches, none}
use Rattle.process_rules.proofs.Quiet.{runs_join}
use Rattle.process_rules.proofs.Growing.{runs_count}
use Rattle.process.specs.rules.Values.{ProcessValue, ShowsProcess, IsProcess, waiting_in}
use Rattle.state_image.specs.rules.ProcessImage.{process_image}
use Rattle.state_image.specs.rules.Saving.{saved_of}
use Rattle.state_image.specs.rules.WellTyped.{IsWellTyped}
use Rattle.state_image.proofs.ReachedWellTyped.{saved_is_well_typed}
use Rattle.sector_disk.specs.declared.sector.TheConstants.{SECTOR_SIZE}
use Rattle.sector_disk.specs.rules.Medium.{Medium, CallsUpTo}
use Rattle.disk_layout.specs.declared.geometry.Geometry.{Geometry}
use Rattle.disk_layout.specs.rules.Journal.{Record, TakesRecords}
use Rattle.worker_store.specs.restart_theorem.Lives.{Act, Checkpoint, Reply, Done, Fails, Cause}
use Rattle.worker_store.specs.restart_theorem.Lives.{OfDisk, OfBounds, Ended, kept_by_end}
use Rattle.worker_store.specs.restart_theorem.Courses.{Stage, Open, MayFail, next_stage}
use Rattle.worker_store.specs.restart_theorem.Promises.{Promise, after, MayPlead}
use Rattle.worker_store.specs.restart_theorem.Holds.{StaysWithin}
use Rattle.worker_store.specs.restart_theorem.Exchanges.{none as no_exchange}
use Rattle.worker_store.specs.rules.Savepoints.{Savepoint}
use Rattle.worker_store.specs.laws.Acts.{SavesWith, ShowsItsVersion, MayBeKept, keeping_more}
use Rattle.worker_store.specs.laws.CallEnds.{IsSavedAs, HasBound, ComesAtOnce, IsSavingNext, saving}
use Rattle.worker_store.specs.rules.Carried.{count_at, IsHeldAt, IsCarried, SyncsAreHeld}
use Rattle.worker_store.specs.laws.AtHand.{IsNextOf}
use Rattle.worker_store.specs.laws.Saves.{IsSavingAt, IsSavedBy}
use Rattle.worker_store.proofs.LawLemmas.Acts.{saving_ends_alike, acts_may_fail}
use Rattle.worker_store.proofs.LawLemmas.CallEnds.{done_saves_end, failed_saves_end, saved_runs}
use Rattle.worker_store.proofs.LawLemmas.CallEnds.{calls_leave_between}
use Rattle.worker_store.proofs.LawLemmas.Carrying.{all_is_held, begins_carried}
use Rattle.worker_store.proofs.LawLemmas.Raising.{all_syncs_are_held, carried_is_reached, up_to_all}
use Rattle.worker_store.proofs.LawLemmas.AtHand.{shown_is_saved, next_is_at_hand, same_within}
use Rattle.worker_store.proofs.LawLemmas.Saving.{done_saves_carry, failed_saves_carry}
use Rattle.worker_store.proofs.LawLemmas.TurnLemmas.{more_carries, syncs_of_more}
use Rattle.worker_store.proofs.LawLemmas.Telling.{max_within}
use Rattle.worker_store.specs.declared.fault.StoreFault.{StoreFault}
use Rattle.worker_store.specs.declared.fault.StoreFault.TheVariants as store
use Rattle.worker_store.specs.declared.store.WorkerStore.{WorkerStore}
use Rattle.worker_store.specs.laws.Laws.{ProcessImagesFitAreas}
use Rattle.worker_store.specs.rules.Calls.{StoresNext}
use Rattle.worker_store.specs.rules.Stores.{IsStoreOf}
use Rattle.worker.specs.declared.fault.WorkFault.{WorkFault}
use Rattle.worker.specs.rules.WorkFaults.{fault_of_store}
use Rattle.worker.specs.rules.DurableValues.{DurableValue}
use Rattle.worker_store.specs.rules.BetweenCalls.{IsForetold}
use Rattle.worker.specs.rules.DurableCalls.{CallCarries, ComesOf, IsReplyOfSaving, WantedMemory}
use Rattle.worker.specs.rules.DurableCalls.{invocation}
use Rattle.worker.specs.rules.OpenWorkers.{IsOpenOn, IsOnDisk, identity}
use Rattle.worker.specs.Savings.{HasSaveCause, LeavesFrontOrNext}
use Rattle.worker.specs.rules.CallCounts.{most_saving}
use Rattle.worker.proofs.CallCountLemmas.{calls_once}
use Rattle.worker.proofs.DurableLemmas.Bounds.{saves_within}
use Rattle.worker.proofs.DurableLemmas.OnDisk.{fewer_syncs, reached_now, records_fit}

one_more : (a b c : ℕ) → a ≡ b + 1 → b ≤ c → a ≤ c + 1
one_more a b c e le = omega (arith, e, le)

-- all that is kept is the first of it
pub all_first : (kept front : List Kept) → front ≡ kept → take (length front) kept ≡ front
all_first kept front all = subst (λ l. take (length front) l ≡ front) all (take-length front)

-- ---- why a save fails

-- a fault of the store of an open worker, as the cause of an end
pub record SaveComes (m : Module) (config : Settings) (guest : Guest) (promise : Promise)
    (fault : StoreFault) : Type 0 where
  pub cause : Cause
  pub comes : ComesOf (fault_of_store fault) cause
  pub wanted : (v : ProcessValue) → WantedMemory {T = Unit {0}} (Err (fault_of_store fault)) guest v
  pub may : MayFail Open cause
  pub bound : (p : ProcessState) → HasBound m config guest promise p cause

module _ (m : Module) (config : Settings) (guest : Guest) (promise : Promise) (p : ProcessState)
    (step : ℕ) (before : WorkerStore) (old new : Medium)
    (on : IsOnDisk (identity m config guest) promise p step promise.events before old)
    (v : ProcessValue)
    (fits : length (process_image (saved_of v)) ≤ SECTOR_SIZE * before.geometry.area_sectors) where
  -- of an image that fits: the number of the generation is at its end, or the disk failed
  pub save_comes : (fault : StoreFault) → HasSaveCause before v old new fault
      → SaveComes m config guest promise fault
  save_comes store.TooBig (inl late) =
      let stores = on.stores in
      let journaled = stores.journaled in
      let numbered = journaled.generation in
      let early = on.early in
      record {
        cause = OfBounds;
        comes = refl;
        wanted = λ v. tt;
        may = tt;
        bound = λ q. inr (omega (arith, late, early, numbered));
      }
  save_comes store.TooBig (inr long) = absurd (omega (arith, long, fits))
  save_comes store.Full full =
      let room = records_fit m config guest promise p step promise.events before old on in
      absurd (omega (arith, full, room))
  save_comes (store.Disk why) cause =
      record { cause = OfDisk; comes = refl; wanted = λ v. tt; may = tt; bound = λ q. tt }
  save_comes store.Failed failed =
      let stores = on.stores in
      let works = stores.works in
      absurd (cc)
  save_comes other cause = absurd cause

-- ---- a worker on its disk

-- The process that is saved of a worker at p: that has come to it by these. No line waits in it,
-- and the journal takes the records of its version.
pub record SavesProcess (m : Module) (config : Settings) (guest : Guest) (p : ProcessState)
    (more : List Kept) (q : ProcessState) (v : ProcessValue) : Type 0 where
  pub comes : ComesAtOnce guest p more q
  pub is_process : IsProcess v
  pub shows : ShowsProcess v guest q
  pub module_is : v.machine.guest ≡ m
  pub none_waits : waiting_in v ≡ []
  pub room : TakesRecords (saved_of v).version config.journal

-- It can be saved: the next savepoint is of it, and has all kept answers and these. Its image fits
-- into its area.
pub record CanSave (m : Module) (config : Settings) (guest : Guest) (promise : Promise)
    (p : ProcessState) (step latest : ℕ) (before : WorkerStore) (disk : Medium)
    (on : IsOnDisk (identity m config guest) promise p step latest before disk) (more : List Kept)
    (q : ProcessState) (v : ProcessValue) : Type 0 where
  pub next : Savepoint m config
  pub is_next : IsNextOf on.point (on.records ++ on.pending) more on.now q v next
  pub all : next.front ≡ promise.kept ++ more
  pub same : next.reached.guest ≡ guest
  pub fits : length (process_image (saved_of v)) ≤ SECTOR_SIZE * before.geometry.area_sectors

module _ {D : Type 0} (medium : D → Medium) where
  -- The image of a process to which it comes isn't longer than an area.
  pub image_fits : (m : Module) (config : Settings) (guest : Guest) (promise : Promise)
      (p : ProcessState) (step latest : ℕ) (before : WorkerStore) (disk : D) (more : List Kept)
      (k : ℕ) (q : ProcessState) (v : ProcessValue)
      → (on : IsOnDisk (identity m config guest) promise p step latest before (medium disk))
      → Runs guest p more k q → ShowsProcess v guest q → IsProcess v → v.machine.guest ≡ m
      → IsOfBytes (host_of config) → ProcessImagesFitAreas
      → length (process_image (saved_of v)) ≤ SECTOR_SIZE * before.geometry.area_sectors
  image_fits m config guest promise p step latest before disk more k q v on comes shows is same
      texts fit =
      let point : Savepoint m config = on.point in
      let shown : ShowsProcess v point.reached.guest q =
      subst (λ (g : Guest). ShowsProcess v g q) (sym on.same) shows in
      let here : Runs point.reached.guest on.now [] on.n p =
      subst (λ (g : Guest). Runs g on.now [] on.n p) (sym on.same) on.runs in
      let on_to : Runs point.reached.guest p more k q =
      subst (λ (g : Guest). Runs g p more k q) (sym on.same) comes in
      let at_p = carried_is_reached medium m config promise point before.journal on.records
      on.pending on.last on.now p on.n disk on.carried on.on_record here in
      let reached : Reaches m config promise.kept p.steps p = at_p.0 in
      let there : Runs reached.guest reached.start (promise.kept ++ more) (p.steps + k) q =
      runs_join reached.guest reached.start p q promise.kept more p.steps k reached.runs
      (subst (λ (g : Guest). Runs g p more k q) (sym at_p.1) on_to) in
      let pages = point.settings.in_range.pages in
      let typed : IsWellTyped m config (saved_of v) =
      saved_is_well_typed point.wasm m config (promise.kept ++ more) (p.steps + k) v q
      point.accepted (few_pages config.pages pages.1) texts
      (record {
        guest = reached.guest;
        start = reached.start;
        begins = reached.begins;
        runs = there;
      }) same is (subst (λ (g : Guest). ShowsProcess v g q) (sym at_p.1) shown) in
      let stores = on.stores in
      subst (λ (g : Geometry). length (process_image (saved_of v)) ≤ SECTOR_SIZE * g.area_sectors)
      (sym stores.geometry) (fit m config (saved_of v) (length point.wasm) typed)
    where
      few_pages : (pages : ℕ) → pages ≤ 256 → pages ≤ 2 ^ 16
      few_pages pages few = omega (arith, few)

  pub can_save : (m : Module) (config : Settings) (guest : Guest) (promise : Promise)
      (p : ProcessState) (step latest : ℕ) (before : WorkerStore) (disk : D) (more : List Kept)
      (k : ℕ) (q : ProcessState) (v : ProcessValue)
      → (on : IsOnDisk (identity m config guest) promise p step latest before (medium disk))
      → Runs guest p more k q → ShowsProcess v guest q → IsProcess v → v.machine.guest ≡ m
      → IsOfBytes (host_of config) → ProcessImagesFitAreas
      → TakesRecords (saved_of v).version config.journal
      → CanSave m config guest promise p step latest before (medium disk) on more q v
  can_save m config guest promise p step latest before disk more k q v on comes shows is same texts
      fit room =
      let point : Savepoint m config = on.point in
      let all : List Record = on.records ++ on.pending in
      let held = all_is_held m config promise point before.journal on.records on.pending on.last
      on.now (medium disk) on.carried in
      let shown : ShowsProcess v point.reached.guest q =
      subst (λ (g : Guest). ShowsProcess v g q) (sym on.same) shows in
      let here : Runs point.reached.guest on.now [] on.n p =
      subst (λ (g : Guest). Runs g on.now [] on.n p) (sym on.same) on.runs in
      let on_to : Runs point.reached.guest p more k q =
      subst (λ (g : Guest). Runs g p more k q) (sym on.same) comes in
      let runs : Runs point.reached.guest on.now more (on.n + k) q =
      runs_join point.reached.guest on.now p q [] more on.n k here on_to in
      let found = next_is_at_hand m config point all more on.now q (on.n + k) v held.recorded runs
      shown is same room in
      let of_next = found.1 in
      record {
        next = found.0;
        is_next = of_next;
        all = of_next.front ∙ ap (λ (l : List Kept). l ++ more) (sym on.on_record);
        same = of_next.same ∙ on.same;
        fits = image_fits m config guest promise p step latest before disk more k q v on comes
            shows is same texts fit;
      }

-- ---- an act that saves it

-- A worker that is open on its disk, and the process that is saved of it: the one that it shows in
-- the end.
module _ {D : Type 0} (medium : D → Medium) (old new : DurableValue) (disk : D)
    (fit : ProcessImagesFitAreas) (m : Module) (config : Settings) (guest : Guest)
    (promise : Promise) (stage : Stage) (p : ProcessState)
    (opened : IsOpenOn m config guest promise stage p old (medium disk)) (more : List Kept)
    (q : ProcessState) (is : SavesProcess m config guest p more q new.process) where
  ready : CanSave m config guest promise p p.steps promise.events old.store (medium disk)
      opened.on_disk more q new.process
  ready =
      let comes = is.comes in
      can_save medium m config guest promise p p.steps promise.events old.store disk more 0 q
      new.process opened.on_disk comes.runs is.shows is.is_process is.module_is opened.texts fit
      is.room

  shown_whole : IsSavedAs m config guest q (saved_of new.process)
  shown_whole = shown_is_saved m config guest new.process q is.shows is.module_is

  -- the steps are those of the process before
  same_steps : q.steps ≡ p.steps
  same_steps =
      let comes = is.comes in
      let counted : q.steps ≡ p.steps + 0 = runs_count guest p q more 0 comes.runs in
      omega (arith, counted)

  module _ (act : Act) (saves : SavesWith promise act more (saved_of new.process))
      (room : kept_by_end act (saved_of new.process) promise.kept ≢ promise.kept
      → TakesRecords Two config.journal) (acts : List Act) (next_act : stage.acts ≡ act ∷ acts)
      (disk' : D)
      (leaves : LeavesFrontOrNext old.store new.process (medium disk) (medium disk'))
      (few : CallsUpTo (most_saving (medium disk).sectors) (medium disk) (medium disk')) where
    -- how many are kept in the end
    abbrev held_then : ℕ
    held_then = length (promise.kept ++ more)

    abbrev saving_next : IsSavingNext m config guest promise stage act p
        (saving more q (saved_of new.process))
    saving_next = record {
      between = opened.between;
      comes = is.comes;
      saved = shown_whole;
      saves = saves;
      acts = acts;
      is_next = next_act;
      synced = opened.synced;
      room = room;
    }

    saving_at : (let on = opened.on_disk in
        let can = ready in
        IsSavingAt promise act more (saved_of new.process) on.point can.next
        (on.records ++ on.pending) on.now)
    saving_at =
        let can = ready in
        let next_is = can.is_next in
        let comes = is.comes in
        let lines : length q.host.lines ≡ length p.host.lines = comes.lines in
        let heard : length p.host.lines ≤ promise.heard = opened.heard in
        record {
          saves = saves;
          saved = next_is.saved;
          all = can.all;
          front = next_is.saves (keeping_more promise more)
              (all_first (promise.kept ++ more) can.next.front can.all)
              (up_to_all (promise.kept ++ more) can.next.front q.steps can.all)
              (omega (arith, lines, heard));
        }

    -- what was promised is held on the disk, these being kept besides
    carried_with_more : (let on = opened.on_disk in
        IsCarried (keeping_more promise more) on.point old.store.journal on.records on.pending
        on.last on.now (medium disk))
    carried_with_more =
        let on = opened.on_disk in
        let comes = is.comes in
        let lines : length q.host.lines ≡ length p.host.lines = comes.lines in
        let by = reached_now medium m config guest promise p p.steps promise.events old.store disk
        on in
        let counted : p.steps ≡ on.now.steps + on.n =
        runs_count guest on.now p [] on.n on.runs in
        let may_be : MayBeKept more p.steps (length p.host.lines) promise.begun = record {
          up_to = subst (λ n. IsNarrowTo more n) (shown_whole.shows.steps ∙ same_steps)
              saves.may.up_to;
          emitted = subst (λ n. ((step : ℕ) → IsNarrowTo more step) ⊎ (promise.begun ≤ n))
              (shown_whole.shows.lines ∙ lines) saves.may.emitted;
        } in
        more_carries medium m config promise on.point old.store.journal on.records on.pending
        on.last on.now p p.steps more disk on.carried on.point.accepted.valid by.reached
        opened.synced (come_so_far on.now.steps p.steps on.n counted) may_be
      where
        come_so_far : (a b n : ℕ) → b ≡ a + n → a ≤ b
        come_so_far a b n e = omega (arith, e)

    -- what is kept besides widens the process at hand
    up_to_now : IsNarrowTo more p.steps
    up_to_now =
        subst (λ n. IsNarrowTo more n) (shown_whole.shows.steps ∙ same_steps) saves.may.up_to

    -- at any moment it is one generation on at most
    save_bounds : StaysWithin (promise.events + 1) (medium disk) (medium disk')
    save_bounds =
        let on = opened.on_disk in
        let stores = on.stores in
        let next_is = ready.is_next in
        let early = on.early in
        saves_within m config on.point (promise.events + 1) (medium disk) (medium disk')
        stores.sectors ready.next on.records on.pending on.last next_is.comes
        (omega (arith, early))
        (leaves m config on.point ready.next on.records on.pending on.last on.now on.stores
        next_is.comes next_is.saved)

    -- no sync of the guest that has returned needs an answer that isn't on the disk
    syncs_then : (let on = opened.on_disk in
        SyncsAreHeld m config (promise.kept ++ more) (count_at on.point on.records)
        ((saved_of new.process).steps - 1))
    syncs_then =
        let on = opened.on_disk in
        let by = reached_now medium m config guest promise p p.steps promise.events old.store disk
        on in
        fewer_syncs m config (keeping_more promise more) (count_at on.point on.records) p.steps
        ((saved_of new.process).steps - 1)
        (one_less (saved_of new.process).steps p.steps (shown_whole.shows.steps ∙ same_steps))
        (syncs_of_more m config promise.kept more p.steps p on.point.accepted.valid by.reached
        up_to_now (count_at on.point on.records) on.syncs)
      where
        one_less : (n s : ℕ) → n ≡ s → n - 1 ≤ s
        one_less n s e = omega (arith, e)

    -- it fails for a cause that it may plead
    pub save_pleaded : (cause : Cause) → MayPlead config (promise.kept ++ more) stage act cause
        → HasBound m config guest promise q cause
        → CallCarries (invocation m config guest act) promise stage (Fails cause) new (medium disk)
        (medium disk') []
    save_pleaded cause pleads bound =
        let on = opened.on_disk in
        let can = ready in
        let next_is = can.is_next in
        record {
          events = [];
          are = no_exchange;
          held = held_then;
          kept = (
            failed_saves_end m config guest promise stage act more p q (saved_of new.process) cause
                saving_next pleads bound,
            tt,
          );
          carried = failed_saves_carry medium m config promise act more (saved_of new.process) cause
              held_then on.point can.next old.store.journal on.records on.pending on.last on.now
              disk disk' saving_at carried_with_more syncs_then
              (leaves m config on.point can.next on.records on.pending on.last on.now on.stores
              next_is.comes next_is.saved);
          bounded = save_bounds;
          counted = calls_once (most_saving (medium disk).sectors) 1 (medium disk) (medium disk')
              few (omega arith) (omega arith);
          goes_on = λ opens. absurd (cc);
        }

    pub save_failed : (cause : Cause) → MayFail Open cause
        → HasBound m config guest promise q cause
        → CallCarries (invocation m config guest act) promise stage (Fails cause) new (medium disk)
        (medium disk') []
    save_failed cause may bound =
        let between = opened.between in
        save_pleaded cause
        (acts_may_fail config (promise.kept ++ more) stage act cause between.is_open may) bound

    module _ (version : ShowsItsVersion act (saved_of new.process))
        (works : new.has_failed ≡ false) (says : new.is_abreast ≡ old.is_abreast)
        (stores : StoresNext old.store new.store new.process (medium disk) (medium disk')) where
      -- what is promised then is what a checkpoint promises where these are kept
      abbrev more_then : Promise
      more_then = after (keeping_more promise more)
          (Ended Checkpoint Done held_then (saved_of new.process))

      stored : (let can = ready in
          IsStoreOf can.next new.store [] [] can.next.process can.next.process (medium disk'))
      stored =
          let on = opened.on_disk in
          let can = ready in
          let next_is = can.is_next in
          stores m config on.point can.next on.records on.pending on.last on.now on.stores
          next_is.comes next_is.saved

      saved_by_act : (let can = ready in
          IsSavedBy promise act more (saved_of new.process) can.next (medium disk) (medium disk'))
      saved_by_act =
          let on = opened.on_disk in
          let can = ready in
          let next_is = can.is_next in
          done_saves_carry medium m config promise act more (saved_of new.process) on.point can.next
          old.store.journal on.records on.pending on.last on.now disk disk' saving_at
          carried_with_more
          (leaves m config on.point can.next on.records on.pending on.last on.now on.stores
          next_is.comes next_is.saved) (let s = stored in s.journaled.at_savepoint)

      saved_on : (let can = ready in
          IsOnDisk (identity m config guest) more_then q q.steps (promise.events + 1) new.store
          (medium disk'))
      saved_on =
          let on = opened.on_disk in
          let can = ready in
          let next : Savepoint m config = can.next in
          let next_is = can.is_next in
          let numbered = next_is.comes.generation in
          let kept : promise.kept ++ more ≡ next.front ++ [] =
          sym can.all ∙ sym (append-nil next.front) in
          let there = saved_by_act in
          let journaled = stored.journaled in
          record {
            point = next;
            same = can.same;
            records = [];
            pending = [];
            last = next.process;
            now = next.process;
            stores = stored;
            carried = begins_carried medium m config more_then next new.store.journal disk'
                (subst (λ (z : Promise). IsHeldAt z next [] next.process)
                (saving_ends_alike promise act more (saved_of new.process) Done held_then saves)
                there.held) journaled;
            on_record = kept;
            n = 0;
            runs = subst (λ (z : ProcessState). Runs guest z [] 0 q) (sym next_is.process) none;
            syncs = all_syncs_are_held m config more_then next [] q.steps kept;
            early = one_more next.generation on.point.generation promise.events numbered on.early;
          }

      -- it is open on the disk again
      saved_open : IsOpenOn m config guest more_then
          (next_stage stage (Ended act Done held_then (saved_of new.process))) q new
          (medium disk')
      saved_open =
          let comes = is.comes in
          let between = opened.between in
          let shown = shown_whole in
          let steps : (saved_of new.process).steps ≡ q.steps = shown.shows.steps in
          let lines : (saved_of new.process).lines ≡ length q.host.lines = shown.shows.lines in
          let told : length q.host.lines ≡ length p.host.lines = comes.lines in
          let passed : promise.passed ≤ length p.host.lines = opened.passed in
          let heard : length p.host.lines ≤ promise.heard = opened.heard in
          let synced : promise.synced ≤ p.steps = opened.synced in
          let on = same_steps in
          record {
            works = works;
            opened = opened.opened;
            texts = opened.texts;
            shows = is.shows;
            module_is = is.module_is;
            between = calls_leave_between m config guest (keeping_more promise more) stage
                Checkpoint Done held_then q (saved_of new.process) between.start between.begins
                (saved_runs m config guest promise stage act more p q (saved_of new.process)
                saving_next) (between.line ∙ ap (λ n. Some n) (sym told)) steps refl;
            heard = omega (arith, told, heard);
            passed = max_within (saved_of new.process).lines promise.passed (length q.host.lines)
                (same_within _ _ _ lines (omega arith)) (omega (arith, passed, told));
            none_waits = is.none_waits;
            on_disk = saved_on;
            synced = max_within (saved_of new.process).steps promise.synced q.steps
                (same_within _ _ _ steps (omega arith)) (omega (arith, synced, on));
            abreast = record {
              none_beyond = λ here. (
                  let so_far = opened.abreast in
                  let few : promise.begun ≤ length p.host.lines =
                  so_far.none_beyond (sym says ∙ here) in
                  omega (arith, few, told));
              says_so = λ abreast. (let so_far = opened.abreast in says ∙ so_far.says_so abreast);
            };
          }

      pub save_done : CallCarries (invocation m config guest act) promise stage Done new
          (medium disk) (medium disk') []
      save_done =
          let there = saved_by_act in
          record {
            events = [];
            are = no_exchange;
            held = held_then;
            kept = (
              done_saves_end m config guest promise stage act more p q (saved_of new.process)
                  saving_next version,
              tt,
            );
            carried = there.carries;
            bounded = save_bounds;
            counted = calls_once (most_saving (medium disk).sectors) 1 (medium disk)
                (medium disk') few (omega arith) (omega arith);
            goes_on = λ opens. (
              q,
              subst (λ (z : Promise). IsOpenOn m config guest z
                  (next_stage stage (Ended act Done held_then (saved_of new.process))) q new
                  (medium disk'))
                  (sym (saving_ends_alike promise act more (saved_of new.process) Done held_then
                  saves)) saved_open,
            );
          }

-- ---- whatever was promised

-- What an open worker shows in the end is saved of it by this act, whatever was promised of it.
abbrev pub SavesShown : Act → DurableValue → DurableValue → Medium → Type 0
SavesShown act old new disk =
    (m : Module) (config : Settings) (guest : Guest) (promise : Promise) (stage : Stage)
    (p : ProcessState) → IsOpenOn m config guest promise stage p old disk
    → (more : List Kept) × (q : ProcessState) × SavesProcess m config guest p more q new.process
    × SavesWith promise act more (saved_of new.process)
    × (kept_by_end act (saved_of new.process) promise.kept ≢ promise.kept
    → TakesRecords Two config.journal)

-- An image of it isn't longer than an area.
abbrev pub FitsOpen : DurableValue → ProcessValue → Medium → Type 0
FitsOpen w v disk =
    (m : Module) (config : Settings) (guest : Guest) (promise : Promise) (stage : Stage)
    (p : ProcessState) → IsOpenOn m config guest promise stage p w disk
    → length (process_image (saved_of v)) ≤ SECTOR_SIZE * w.store.geometry.area_sectors

-- the act keeps it
abbrev pub SavingCarries : Act → DurableValue → Result (Unit {0}) WorkFault → DurableValue
    → Medium → Medium → Type 0
SavingCarries act old result new disk disk' =
    (m : Module) (config : Settings) (guest : Guest) (promise : Promise) (stage : Stage)
    (p : ProcessState) (acts : List Act) → IsOpenOn m config guest promise stage p old disk
    → stage.acts ≡ act ∷ acts → IsForetold stage []
    → (reply : Reply) × IsReplyOfSaving result reply
    × WantedMemory result guest new.process
    × CallCarries (invocation m config guest act) promise stage reply new disk disk' []

-- how its disk is left
module _ {D : Type 0} (medium : D → Medium) (act : Act) (old new : DurableValue) (disk disk' : D)
    (fit : ProcessImagesFitAreas) (saves : SavesShown act old new (medium disk))
    (leaves : LeavesFrontOrNext old.store new.process (medium disk) (medium disk'))
    (few : CallsUpTo (most_saving (medium disk).sectors) (medium disk) (medium disk')) where
  pub saving_done : ShowsItsVersion act (saved_of new.process) → new.has_failed ≡ false
      → new.is_abreast ≡ old.is_abreast
      → StoresNext old.store new.store new.process (medium disk) (medium disk')
      → SavingCarries act old (Ok tt) new (medium disk) (medium disk')
  saving_done version works says stores m config guest promise stage p acts opened next_act
      foretold =
      let is = saves m config guest promise stage p opened in (
        Done,
        refl,
        tt,
        save_done medium old new disk fit m config guest promise stage p opened is.0 is.1 is.2
            act is.3 is.4 acts next_act disk' leaves few version works says stores,
      )

  pub saving_fault : (v : ProcessValue) → FitsOpen old v (medium disk) → (fault : StoreFault)
      → HasSaveCause old.store v (medium disk) (medium disk') fault
      → SavingCarries act old (Err (fault_of_store fault)) new (medium disk) (medium disk')
  saving_fault v fits fault cause m config guest promise stage p acts opened next_act foretold =
      let is = saves m config guest promise stage p opened in
      let why = save_comes m config guest promise p p.steps old.store (medium disk) (medium disk')
      opened.on_disk v (fits m config guest promise stage p opened) fault cause in (
        Fails why.cause,
        (why.cause, why.comes, refl),
        why.wanted new.process,
        save_failed medium old new disk fit m config guest promise stage p opened is.0 is.1 is.2
            act is.3 is.4 acts next_act disk' leaves few why.cause why.may (why.bound is.1),
      )
