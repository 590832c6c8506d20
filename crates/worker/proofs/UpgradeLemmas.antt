-- An upgrade, as an event of a life, and what its disk holds.
use Rattle.std.proofs.Common.{◌≡◌, ◌⊎◌, ℕ, ◌+◌, ◌≤◌, List, [], ◌∷◌, ◌++◌, length, true}
use Rattle.std.proofs.Common.{Bool, false, sym, ap, ◌∙◌, refl, subst, inl, inr, ⊎_elim, arith}
use Rattle.std.specs.Prelude.{Ok, Err}
use Rattle.wasm_syntax.specs.declared.module.Module.{Module}
use Rattle.wasi_abi.specs.declared.version.Version.{Version}
use Rattle.wasi_abi.specs.declared.version.Version.TheVariants.{One, Two}
use Rattle.wasi_abi.specs.rules.Configs.{Settings}
use Rattle.std.proofs.lemmas.List.{append-nil}
use Rattle.process_rules.specs.Processes.{ProcessState, Guest}
use Rattle.process_rules.specs.Runs.{Kept, Wider, widened, version_after, none as no_step, widen}
use Rattle.process_rules.proofs.ReachedStates.{reached_versions}
use Rattle.process.specs.rules.Values.{ProcessValue, ShowsProcess, IsProcess}
use Rattle.process.proofs.Lines.{lines_shown}
use Rattle.state_image.specs.rules.ProcessImage.{Saved, process_image}
use Rattle.state_image.specs.rules.Saving.{saved_of}
use Rattle.sector_disk.specs.rules.Medium.{Medium, CallsUpTo}
use Rattle.sector_disk.proofs.CallLemmas.{no_calls}
use Rattle.sector_disk.proofs.Moments.{leaves_only, started}
use Rattle.disk_layout.specs.declared.geometry.Geometry.{Geometry}
use Rattle.disk_layout.specs.rules.Journal.{TakesRecords}
use Rattle.disk_layout.specs.rules.Places.{area_place, rounded_up}
use Rattle.journal.specs.rules.Steps.{barrier_calls}
use Rattle.snapshot.specs.rules.Calls.{with_head}
use Rattle.snapshot.proofs.StoreCalls.{some_none}
use Rattle.worker_store.specs.restart_theorem.Lives.{Upgrade, Cause, OfJournal, OfLines, Fails}
use Rattle.worker_store.specs.restart_theorem.Lives.{kept_by_widening, kept_by_end}
use Rattle.worker_store.specs.restart_theorem.Courses.{Stage}
use Rattle.worker_store.specs.restart_theorem.Promises.{Promise, MayPlead}
use Rattle.worker_store.specs.laws.CallEnds.{HasBound}
use Rattle.worker_store.specs.laws.Laws.{ProcessImagesFitAreas}
use Rattle.worker_store.specs.rules.Savepoints.{IsAtFrontOrNext}
use Rattle.worker_store.proofs.LawLemmas.Acts.{upgrades_save, upgrades_widen}
use Rattle.worker_store.proofs.LawLemmas.Saving.{front_of_none}
use Rattle.worker_store.specs.declared.fault.StoreFault.{StoreFault}
use Rattle.worker_store.specs.declared.fault.StoreFault.TheVariants as store
use Rattle.worker_store.specs.declared.store.WorkerStore.{WorkerStore}
use Rattle.worker_store.specs.rules.Calls.{StoresNext}
use Rattle.worker.specs.declared.fault.WorkFault.{WorkFault}
use Rattle.worker.specs.declared.fault.WorkFault.TheVariants as work
use Rattle.worker.specs.declared.upgrade_fault.UpgradeFault.{UpgradeFault}
use Rattle.worker.specs.declared.upgrade_fault.UpgradeFault.TheVariants.{JournalTooSmall}
use Rattle.worker.specs.declared.upgrade_fault.UpgradeFault.TheVariants.{NotCaughtUp}
use Rattle.worker.specs.rules.WorkFaults.{fault_of_store}
use Rattle.worker.specs.declared.running_worker.RunningWorker.{RunningWorker}
use Rattle.worker.specs.rules.DurableValues.{DurableValue, durable_of}
use Rattle.worker.specs.rules.DurableCalls.{ActCarries, ComesOf}
use Rattle.worker.specs.rules.OpenWorkers.{IsOpenOn}
use Rattle.worker.specs.Savings.{LeavesFrontOrNext, SaveCalls, HasSaveCause}
use Rattle.worker.specs.rules.CallCounts.{most_saving}
use Rattle.worker.specs.rules.Upgrades.{upgraded, UpgradeCalls, LeavesProcess, HasUpgradeCause}
use Rattle.worker.specs.rules.Upgrades.{IsTooSmall, IsNotCaughtUp}
use Rattle.worker.specs.Upgrading.{AfterFault}
use Rattle.worker.proofs.CauseLemmas.{fits_upgraded}
use Rattle.worker.proofs.SavingActLemmas.{SavesShown, saving_done, saving_fault, save_pleaded}
use Rattle.worker.proofs.DurableLemmas.OnDisk.{room_now}
use Rattle.worker.proofs.WideningLemmas.{one_or_two, upgraded_version, upgraded_two}
use Rattle.worker.proofs.WideningLemmas.{is_upgraded, module_upgraded, shows_upgraded}
use Rattle.worker.proofs.WideningLemmas.{none_waits_upgraded, shown_version}

-- what takes the records of version 2 takes those of either
takes_either : (v : Version) (sectors : ℕ) → TakesRecords Two sectors → TakesRecords v sectors
takes_either One sectors takes = tt
takes_either Two sectors takes = takes

-- ---- an open worker

module _ (m : Module) (config : Settings) (guest : Guest) (promise : Promise) (stage : Stage)
    (p : ProcessState) (w : DurableValue) (disk : Medium)
    (opened : IsOpenOn m config guest promise stage p w disk) where
  -- its journal is that of the configuration
  journal_is : w.store.geometry.journal_sectors ≡ config.journal
  journal_is =
      let on = opened.on_disk in
      let stores = on.stores in
      ap (λ (g : Geometry). g.journal_sectors) stores.geometry

  pub takes_config : TakesRecords Two w.store.geometry.journal_sectors
      → TakesRecords Two config.journal
  takes_config takes = subst (λ n. TakesRecords Two n) journal_is takes

  pub takes_upgraded : TakesRecords Two w.store.geometry.journal_sectors
      → TakesRecords (saved_of (upgraded w.process)).version config.journal
  takes_upgraded takes =
      takes_either (saved_of (upgraded w.process)).version config.journal (takes_config takes)

  -- the kept answers lead to the version that it shows
  pub kept_version : version_after promise.kept ≡ w.process.host.host.version
  kept_version =
      let between = opened.between in
      sym (reached_versions m config promise.kept p.steps p (record {
        guest = guest;
        start = between.start;
        begins = between.begins;
        runs = between.runs;
      })) ∙ shown_version w.process guest p opened.shows

-- ---- what is kept besides

stays_kept : (before now : Version) (steps : ℕ) (kept : List Kept) → before ≡ now
    → kept_by_widening before now steps kept ≡ kept
stays_kept One One steps kept e = refl
stays_kept Two Two steps kept e = refl
stays_kept One Two steps kept e = absurd (cc)
stays_kept Two One steps kept e = absurd (cc)

pub same_kept : (kept : List Kept) (shown : Saved) → version_after kept ≡ shown.version
    → kept_by_end Upgrade shown kept ≡ kept
same_kept kept shown same = stays_kept (version_after kept) shown.version shown.steps kept same

-- ---- what it saves

-- It saves the process that is shown in the end: as it was, or in version 2, where that may be.
module _ {D : Type 0} (medium : D → Medium) (old new : DurableValue) (disk : D)
    (is : IsProcess old.process) where
  -- as it was
  pub same_saved : new.process ≡ old.process → SavesShown Upgrade old new (medium disk)
  same_saved same m config guest promise stage p opened =
      let kept : version_after promise.kept ≡ (saved_of new.process).version =
      kept_version m config guest promise stage p old (medium disk) opened
      ∙ ap (λ (v : ProcessValue). v.host.host.version) (sym same) in (
        [],
        p,
        record {
          comes = record { runs = no_step; lines = refl };
          is_process = subst IsProcess (sym same) is;
          shows = subst (λ (v : ProcessValue). ShowsProcess v guest p) (sym same) opened.shows;
          module_is = ap (λ (v : ProcessValue). v.machine.guest) same ∙ opened.module_is;
          none_waits = ap (λ (v : ProcessValue). v.host.host.lines) same ∙ opened.none_waits;
          room = subst (λ (v : ProcessValue). TakesRecords (saved_of v).version config.journal)
              (sym same) (room_now m config guest promise p p.steps promise.events old.store
              (medium disk) opened.on_disk old.process opened.shows);
        },
        upgrades_save promise (saved_of new.process) [] kept refl,
        λ differs. absurd (differs (same_kept promise.kept (saved_of new.process) kept)),
      )

  module _ (takes : TakesRecords Two old.store.geometry.journal_sectors) where
    -- widened
    wide_saved : old.process.host.host.version ≡ One → old.is_abreast ≡ true
        → new.process ≡ upgraded old.process → SavesShown Upgrade old new (medium disk)
    wide_saved narrow abreast same m config guest promise stage p opened =
        let shown : p.host.version ≡ One =
        shown_version old.process guest p opened.shows ∙ narrow in
        let shows : ShowsProcess new.process guest (widened p) =
        subst (λ (v : ProcessValue). ShowsProcess v guest (widened p)) (sym same)
        (shows_upgraded old.process narrow guest p opened.shows) in
        let so_far = opened.abreast in
        let steps : (saved_of new.process).steps ≡ p.steps = shows.steps in
        let lines : (saved_of new.process).lines ≡ length p.host.lines =
        sym (lines_shown new.process.host (widened p).host shows.host) in
        let few : promise.begun ≤ length p.host.lines = so_far.none_beyond abreast in (
          Wider p.steps ∷ [],
          widened p,
          record {
            comes = record {
              runs = widen (record { narrow = shown; at = refl }) no_step;
              lines = refl;
            };
            is_process = subst IsProcess (sym same) (is_upgraded old.process is);
            shows = shows;
            module_is = ap (λ (v : ProcessValue). v.machine.guest) same
                ∙ module_upgraded old.process m opened.module_is;
            none_waits = ap (λ (v : ProcessValue). v.host.host.lines) same
                ∙ none_waits_upgraded old.process opened.none_waits;
            room = takes_either (saved_of new.process).version config.journal
                (takes_config m config guest promise stage p old (medium disk) opened takes);
          },
          upgrades_widen promise (saved_of new.process) (Wider p.steps ∷ [])
              (kept_version m config guest promise stage p old (medium disk) opened ∙ narrow)
              (ap (λ (v : ProcessValue). v.host.host.version) same ∙ upgraded_version old.process)
              (ap (λ n. Wider n ∷ []) (sym steps)) (omega (arith, few, lines)),
          λ differs. takes_config m config guest promise stage p old (medium disk) opened takes,
        )

    -- one of the two
    pub upgrade_saves_shown : (old.process.host.host.version ≡ One → old.is_abreast ≡ true)
        → (new.process ≡ old.process) ⊎ (new.process ≡ upgraded old.process)
        → SavesShown Upgrade old new (medium disk)
    upgrade_saves_shown abreast (inl same) = same_saved same
    upgrade_saves_shown abreast (inr same) = ⊎_elim
        (λ (narrow : old.process.host.host.version ≡ One). wide_saved narrow (abreast narrow) same)
        (λ (wide : old.process.host.host.version ≡ Two).
        same_saved (same ∙ upgraded_two old.process wide))
        (one_or_two old.process.host.host.version)

-- ---- what an error leaves

pub after_fault_of : (fault : StoreFault) (before : WorkerStore) (v w : ProcessValue)
    → AfterFault fault before v w → (w ≡ v) ⊎ (w ≡ upgraded v)
after_fault_of store.TooBig before v w (inl same) = inl same
after_fault_of store.TooBig before v w (inr wide) = inr wide.0
after_fault_of store.Full before v w same = inl same
after_fault_of store.TooLong before v w same = inl same
after_fault_of store.Damaged before v w same = inl same
after_fault_of (store.Layout why) before v w same = inl same
after_fault_of (store.Disk why) before v w after_fault = after_fault
after_fault_of store.Memory before v w same = inl same
after_fault_of store.Failed before v w after_fault = after_fault

-- ---- what it keeps

module _ {D : Type 0} (medium : D → Medium) (old new : DurableValue) (disk disk' : D)
    (fit : ProcessImagesFitAreas) (is : IsProcess old.process)
    (takes : TakesRecords Two old.store.geometry.journal_sectors)
    (abreast : old.process.host.host.version ≡ One → old.is_abreast ≡ true)
    (leaves : LeavesFrontOrNext old.store new.process (medium disk) (medium disk'))
    (few : CallsUpTo (most_saving (medium disk).sectors) (medium disk) (medium disk')) where
  -- by Ok
  pub upgrade_carries : new.process ≡ upgraded old.process → new.has_failed ≡ false
      → new.is_abreast ≡ old.is_abreast
      → StoresNext old.store new.store new.process (medium disk) (medium disk')
      → ActCarries Upgrade [] old (Ok tt) new (medium disk) (medium disk')
  upgrade_carries same works says stores =
      saving_done medium Upgrade old new disk disk' fit
      (upgrade_saves_shown medium old new disk is takes abreast (inr same)) leaves few
      (ap (λ (v : ProcessValue). v.host.host.version) same ∙ upgraded_version
      old.process) works says stores

  -- by a fault of its store
  pub upgrade_fault_carries : (why : StoreFault)
      → HasSaveCause old.store (upgraded old.process) (medium disk) (medium disk') why
      → AfterFault why old.store old.process new.process
      → ActCarries Upgrade [] old (Err (fault_of_store why)) new (medium disk) (medium disk')
  upgrade_fault_carries why cause after_fault =
      saving_fault medium Upgrade old new disk disk' fit
      (upgrade_saves_shown medium old new disk is takes abreast
      (after_fault_of why old.store old.process new.process after_fault)) leaves few
      (upgraded old.process) (fits_upgraded medium fit old disk is) why cause

-- ---- it is refused

-- where nothing was asked of the disk
leaves_nothing : {D : Type 0} (medium : D → Medium) (before : WorkerStore) (v : ProcessValue)
    (disk : D) → LeavesFrontOrNext before v (medium disk) (medium disk)
leaves_nothing medium before v disk m config point next records pending last now is comes saved =
    leaves_only (medium disk) (medium disk) (IsAtFrontOrNext point next records last pending)
    (started (medium disk) (IsAtFrontOrNext point next records last pending))
    (λ image crashed. inl (front_of_none m config point records pending last image
    (is.journaled.at_savepoint image crashed)))

not_said : (a b : Bool) → (a ≡ true → b ≡ true) → b ≡ false → a ≡ false
not_said false b says silent = refl
not_said true b says silent = let yes = says refl in absurd (cc)

module _ {D : Type 0} (medium : D → Medium) (old new : DurableValue) (disk : D)
    (fit : ProcessImagesFitAreas) (is : IsProcess old.process) (same : new.process
    ≡ old.process) where
  -- for a cause that it may plead
  refused_by : (why : UpgradeFault) (cause : Cause) → ComesOf (work.Upgrade why) cause
      → ((m : Module) (config : Settings) (guest : Guest) (promise : Promise) (stage : Stage)
      (p : ProcessState) → IsOpenOn m config guest promise stage p old (medium disk)
      → MayPlead config (promise.kept ++ []) stage Upgrade cause
      × HasBound m config guest promise p cause)
      → ActCarries Upgrade [] old (Err (work.Upgrade why)) new (medium disk) (medium disk)
  unfolding same_saved
  refused_by why cause comes pleads m config guest promise stage p acts opened next_act foretold =
      let saves = same_saved medium old new disk is same m config guest promise stage p opened in
      let may = pleads m config guest promise stage p opened in (
        Fails cause,
        (cause, comes, refl),
        tt,
        save_pleaded medium old new disk fit m config guest promise stage p opened saves.0 saves.1
            saves.2 Upgrade saves.3 saves.4 acts next_act disk
            (leaves_nothing medium old.store new.process disk) (omega arith) cause may.0 may.1,
      )

  pub too_small_carries : IsTooSmall old
      → ActCarries Upgrade [] old (Err (work.Upgrade JournalTooSmall)) new (medium disk)
      (medium disk)
  too_small_carries small =
      refused_by JournalTooSmall OfJournal refl
      (λ m config guest promise stage p opened.
      let between = opened.between in (
        (
          between.is_open,
          λ takes. small (subst (λ n. TakesRecords Two n)
              (sym (journal_is m config guest promise stage p old (medium disk) opened)) takes),
        ),
        tt,
      ))

  pub not_caught_up_carries : IsNotCaughtUp old
      → ActCarries Upgrade [] old (Err (work.Upgrade NotCaughtUp)) new (medium disk) (medium disk)
  not_caught_up_carries behind =
      refused_by NotCaughtUp OfLines refl
      (λ m config guest promise stage p opened.
      let between = opened.between in
      let abreast = opened.abreast in (
        (
          between.is_open,
          subst (λ (l : List Kept). version_after l ≡ One) (sym (append-nil promise.kept))
              (kept_version m config guest promise stage p old (medium disk) opened
              ∙ behind.version),
          not_said stage.is_abreast old.is_abreast abreast.says_so behind.behind,
        ),
        tt,
      ))

-- ---- calls

pub no_upgrade_calls : (w : DurableValue) (why : WorkFault) (disk : Medium)
    → UpgradeCalls {T = Unit {0}} w (Err why) disk disk
no_upgrade_calls w why disk = (
  [],
  some_none (area_place w.store.geometry (w.store.journal.generation + 1))
      (rounded_up (length (process_image (saved_of (upgraded w.process))))),
  record {
    all = tt;
    begun = no_calls (with_head (w.store.journal.generation + 1) []
        ++ barrier_calls w.store.geometry w.store.journal) disk;
  },
)

pub upgrade_calls_err : (w : DurableValue) (fault : StoreFault) (why : WorkFault)
    (old new : Medium)
    → SaveCalls {T = Unit {0}} w.store (upgraded w.process) (Err fault) old new
    → UpgradeCalls {T = Unit {0}} w (Err why) old new
upgrade_calls_err w fault why old new made =
    let makes = made.2 in (made.0, made.1, record { all = tt; begun = makes.begun })

pub upgrade_calls_ok : (w : DurableValue) (done : Unit {0}) (old new : Medium)
    → SaveCalls w.store (upgraded w.process) (Ok done) old new
    → UpgradeCalls {E = WorkFault} w (Ok done) old new
upgrade_calls_ok w done old new made =
    let makes = made.2 in (made.0, made.1, record { all = makes.all; begun = makes.begun })

-- ---- whatever is on the disk

pub upgrade_cause : (running : RunningWorker) (replayed : ℕ) (old new : Medium)
    (fault : StoreFault) → HasSaveCause running.store (upgraded running.process) old new fault
    → HasUpgradeCause (durable_of running replayed) old new (fault_of_store fault)
upgrade_cause running replayed old new store.Memory cause = absurd cause
upgrade_cause running replayed old new other cause = cause

-- of a worker that hadn't failed
pub upgrade_leaves : (running : RunningWorker) (replayed : ℕ) (v after : ProcessValue)
    (old new : Medium) (fault : StoreFault) → running.store.journal.has_failed ≡ false
    → HasSaveCause running.store v old new fault
    → AfterFault fault running.store running.process after
    → LeavesProcess (durable_of running replayed) (fault_of_store fault) after
upgrade_leaves running replayed v after old new store.Failed works failed leaves = absurd (cc)
upgrade_leaves running replayed v after old new other works cause leaves = leaves
