-- The migration theorem: the disk of a worker of version 1, while it is upgraded.
use Rattle.std.proofs.Common.{◌≡◌, ◌⊎◌, ℕ, zero, suc, List, [], ◌∷◌, ◌++◌, take, refl}
use Rattle.std.proofs.Common.{sym, ap, ◌∙◌, subst, inl, inr, ⊎_elim, false}
use Rattle.std.specs.Prelude.{map}
use Rattle.std.proofs.lemmas.List.{append-nil}
use Rattle.wasm_syntax.specs.declared.module.Module.{Module}
use Rattle.wasi_abi.specs.declared.version.Version.TheVariants.{One, Two}
use Rattle.wasi_abi.specs.rules.Configs.{Settings}
use Rattle.process_rules.specs.Processes.{ProcessState, Guest}
use Rattle.process_rules.specs.Runs.{Kept, Given, Wider, Succeeds, widened, version_after}
use Rattle.process_rules.specs.Runs.{none as no_step, widen}
use Rattle.process_rules.proofs.ReachedStates.{reached_versions}
use Rattle.process.specs.rules.Values.{ProcessValue, IsProcess}
use Rattle.state_image.specs.rules.ProcessImage.{Saved}
use Rattle.sector_disk.specs.rules.DiskImage.{DiskImage}
use Rattle.sector_disk.specs.rules.Medium.{Medium, LeavesOnly}
use Rattle.sector_disk.proofs.Moments.{leaves_weaker, leaves_only, started}
use Rattle.disk_layout.specs.rules.Journal.{Record, TakesRecords}
use Rattle.journal.specs.rules.Steps.{barrier_calls}
use Rattle.record_replay.specs.rules.Records.{given_in}
use Rattle.worker_store.specs.restart_theorem.Stands.{StandsFor}
use Rattle.worker_store.specs.restart_theorem.Courses.{Stage}
use Rattle.worker_store.specs.restart_theorem.Promises.{Promise}
use Rattle.worker_store.specs.restart_theorem.Holds.{HoldsPromise, DiskImageHolds, IsUnopened}
use Rattle.worker_store.specs.rules.Savepoints.{Savepoint, IsAtSavepoint, BeginsAtPoint}
use Rattle.worker_store.specs.laws.Laws.{ProcessImagesFitAreas}
use Rattle.worker_store.proofs.LawLemmas.Carrying.{barrier_carries}
use Rattle.worker_store.proofs.LawLemmas.TurnLemmas.{same_no_more}
use Rattle.worker_store.specs.declared.store.WorkerStore.{WorkerStore}
use Rattle.worker_store.specs.rules.Calls.{LeavesFronts, StoresAll, LeavesOneOfTwo, StoresNext}
use Rattle.worker.specs.rules.DurableValues.{DurableValue}
use Rattle.worker.specs.rules.OpenWorkers.{IsOpenOn}
use Rattle.worker.specs.rules.Upgrades.{StandsInOne, LeadsInOne, StandsInTwo, Migrates, EndsInTwo}
use Rattle.worker.specs.rules.Upgrades.{upgraded}
use Rattle.worker.specs.Upgrading.{BarsAndCommits}
use Rattle.worker.proofs.DurableLemmas.OnDisk.{runs_there, keeps_now}
use Rattle.worker.proofs.SavingActLemmas.{CanSave, can_save}
use Rattle.worker.proofs.WideningLemmas.{is_upgraded, module_upgraded, shows_upgraded}
use Rattle.worker.proofs.WideningLemmas.{upgraded_version, shown_in_one}
use Rattle.worker.proofs.UpgradeLemmas.{takes_upgraded}

-- ---- versions

-- what widens none has a front that widens none
narrow_front : (n : ℕ) (kept : List Kept) → version_after kept ≡ One
    → version_after (take n kept) ≡ One
narrow_front zero kept narrow = refl
narrow_front (suc n) [] narrow = refl
narrow_front (suc n) (Given a ∷ kept) narrow = narrow_front n kept narrow
narrow_front (suc n) (Wider steps ∷ kept) narrow = absurd (cc)
narrow_front (suc n) (Succeeds o ∷ kept) narrow = narrow_front n kept narrow

narrow_first : (front rest : List Kept) → version_after (front ++ rest) ≡ One
    → version_after front ≡ One
narrow_first [] rest narrow = refl
narrow_first (Given a ∷ front) rest narrow = narrow_first front rest narrow
narrow_first (Wider steps ∷ front) rest narrow = absurd (cc)
narrow_first (Succeeds o ∷ front) rest narrow = narrow_first front rest narrow

-- what stands for such answers is of version 1
stands_narrow : (m : Module) (config : Settings) (kept : List Kept) (n : ℕ) (image : DiskImage)
    (stands : StandsFor image m config kept n) → version_after kept ≡ One
    → stands.saved.version ≡ One
stands_narrow m config kept n image stands narrow =
    let shown = stands.shown in
    let first : version_after stands.front ≡ One =
    narrow_first stands.front (map given_in stands.records)
    (ap version_after (sym stands.rest) ∙ narrow) in
    shown.version ∙ reached_versions m config stands.front stands.steps stands.process
    stands.reached ∙ first

-- ---- what it stands for

-- by a savepoint and its records
abbrev stands_by_savepoint : (m : Module) (config : Settings) (point : Savepoint m config)
    (records : List Record) (last : ProcessState) (image : DiskImage) (kept : List Kept) (n : ℕ)
    → IsAtSavepoint point records last image → kept ≡ point.front ++ map given_in records
    → n ≡ last.steps → StandsFor image m config kept n
stands_by_savepoint m config point records last image kept n at rest step = record {
  wasm = point.wasm;
  accepted = point.accepted;
  settings = point.settings;
  worker = at.worker;
  generation = point.generation;
  saved = point.saved;
  holds = at.holds;
  front = point.front;
  steps = point.steps;
  process = point.process;
  reached = point.reached;
  functions = point.functions;
  function_types = point.function_types;
  table = point.table;
  shown = point.shown;
  records = records;
  in_journal = at.in_journal;
  rest = rest;
  last = last;
  recorded = at.recorded;
  numbers = at.numbers;
  at_step = step;
  none_later = at.none_later;
  room = point.room;
}

module _ {D : Type 0} (medium : D → Medium) (m : Module) (config : Settings) (guest : Guest)
    (promise : Promise) (stage : Stage) (p : ProcessState) (w : DurableValue) (disk : D)
    (opened : IsOpenOn m config guest promise stage p w (medium disk))
    (narrow : p.host.version ≡ One) where
  -- the kept answers widen none
  kept_narrow : version_after promise.kept ≡ One
  kept_narrow =
      let between = opened.between in
      sym (reached_versions m config promise.kept p.steps p (record {
        guest = guest;
        start = between.start;
        begins = between.begins;
        runs = between.runs;
      })) ∙ narrow

  -- ---- up to the barrier

  in_one : (image : DiskImage) → DiskImageHolds m config promise promise image
      → StandsInOne m config promise image
  in_one image holds = ⊎_elim
      (λ (unopened : IsUnopened promise image).
      let no : promise.has_opened ≡ false =
      ap (λ (z : Promise). z.has_opened) unopened.0 in
      let yes = opened.opened in absurd (cc))
      (λ (h : HoldsPromise m config promise promise image). record {
        held = h.held;
        steps = h.steps;
        stands = h.stands;
        version = stands_narrow m config (take h.held promise.kept) h.steps image h.stands
            (narrow_front h.held promise.kept kept_narrow);
        holds = h.holds;
      }) holds

  fronts_in_one : (mid : D) → LeavesFronts w.store (medium disk) (medium mid)
      → LeavesOnly (medium disk) (medium mid) (StandsInOne m config promise)
  fronts_in_one mid fronts =
      let on = opened.on_disk in
      let carries = barrier_carries medium m config promise promise on.point w.store.journal
      on.records on.pending on.last on.now disk mid (same_no_more promise) on.carried
      (fronts m config on.point on.records on.pending on.last on.now on.stores) in
      leaves_weaker (medium disk) (medium mid) (DiskImageHolds m config promise promise)
      (StandsInOne m config promise) carries.at_any_moment in_one

  -- ---- behind it

  leads_in_one : (image : DiskImage)
      → (let on = opened.on_disk in
      IsAtSavepoint on.point (on.records ++ on.pending) on.now image)
      → LeadsInOne m config promise p image
  leads_in_one image at =
      let on = opened.on_disk in
      let stands : StandsFor image m config promise.kept on.now.steps =
      stands_by_savepoint m config on.point (on.records ++ on.pending) on.now image
      promise.kept on.now.steps at on.on_record refl in
      record {
        steps = on.now.steps;
        stands = stands_by_savepoint m config on.point (on.records
            ++ on.pending) on.now image promise.kept on.now.steps at on.on_record refl;
        version = stands_narrow m config promise.kept on.now.steps image stands kept_narrow;
        more = on.n;
        runs = runs_there medium m config guest promise p p.steps promise.events w.store disk on;
      }

  module _ (fit : ProcessImagesFitAreas) (is : IsProcess w.process)
      (takes : TakesRecords Two w.store.geometry.journal_sectors) where
    -- it can be saved in version 2
    ready : CanSave m config guest promise p p.steps promise.events w.store (medium disk)
        opened.on_disk (Wider p.steps ∷ []) (widened p) (upgraded w.process)
    ready =
        can_save medium m config guest promise p p.steps promise.events w.store disk
        (Wider p.steps ∷ []) 0 (widened p) (upgraded w.process) opened.on_disk
        (widen (record { narrow = narrow; at = refl }) no_step)
        (shows_upgraded w.process (shown_in_one w.process guest p opened.shows narrow) guest p
        opened.shows)
        (is_upgraded w.process is) (module_upgraded w.process m opened.module_is) opened.texts fit
        (takes_upgraded m config guest promise stage p w (medium disk) opened takes)

    in_two : (image : DiskImage) → IsAtSavepoint ready.next [] ready.next.process image
        → StandsInTwo m config promise p image
    in_two image at =
        let can = ready in
        let next_is = can.is_next in
        let kept : promise.kept ++ Wider p.steps ∷ [] ≡ can.next.front ++ map given_in [] =
        sym can.all ∙ sym (append-nil can.next.front) in
        let step : p.steps ≡ can.next.process.steps =
        ap (λ (z : ProcessState). z.steps) (sym next_is.process) in
        record {
          stands = stands_by_savepoint m config can.next [] can.next.process image
              (promise.kept ++ Wider p.steps ∷ []) p.steps at kept step;
          version = ap (λ (s : Saved). s.version) next_is.saved ∙ upgraded_version w.process;
          at = next_is.process;
          alone = refl;
        }

    commits_in_either : (barred disk' : D) (between : WorkerStore)
        → StoresAll w.store between (medium disk) (medium barred)
        → LeavesOneOfTwo between (upgraded w.process) (medium barred) (medium disk')
        → LeavesOnly (medium barred) (medium disk') (λ image.
        LeadsInOne m config promise p image ⊎ StandsInTwo m config promise p image)
    commits_in_either barred disk' between stores commits =
        let on = opened.on_disk in
        let can = ready in
        let next_is = can.is_next in
        let whole : List Record = on.records ++ on.pending in
        leaves_weaker (medium barred) (medium disk')
        (λ image. IsAtSavepoint on.point whole on.now image ⊎ BeginsAtPoint can.next image)
        (λ image. LeadsInOne m config promise p image ⊎ StandsInTwo m config promise p image)
        (commits m config on.point can.next whole [] on.now on.now
        (stores m config on.point on.records on.pending on.last on.now on.stores) next_is.comes
        next_is.saved)
        (λ image at. ⊎_elim
        (λ (stands : IsAtSavepoint on.point whole on.now image). inl (leads_in_one image stands))
        (λ (begins : BeginsAtPoint can.next image). inr (in_two image begins.at)) at)

    migrates_by : (v : ProcessValue) (disk' : D)
        → BarsAndCommits medium w.store w.process v disk disk'
        → LeavesOnly (medium disk) (medium disk') (StandsInOne m config promise)
        ⊎ ((barred : D)
        × ((medium barred).calls
        ≡ barrier_calls w.store.geometry w.store.journal ++ (medium disk).calls)
        × LeavesOnly (medium disk) (medium barred) (StandsInOne m config promise)
        × LeavesOnly (medium barred) (medium disk') (λ image.
        LeadsInOne m config promise p image ⊎ StandsInTwo m config promise p image))
    migrates_by v disk' (inl fronts) = inl (fronts_in_one disk' fronts)
    migrates_by v disk' (inr h) = inr (
      h.0,
      h.3,
      fronts_in_one h.0 h.4,
      commits_in_either h.0 disk' h.1 h.5
          (subst (λ (z : ProcessValue). LeavesOneOfTwo h.1 z (medium h.0) (medium disk')) h.2 h.6),
    )

    ends_by : (after : WorkerStore) (disk' : D)
        → StoresNext w.store after (upgraded w.process) (medium disk) (medium disk')
        → (image : DiskImage) → (medium disk').crash_images image
        → StandsInTwo m config promise p image
    ends_by after disk' stores image crashed =
        let on = opened.on_disk in
        let can = ready in
        let next_is = can.is_next in
        let stored = stores m config on.point can.next on.records on.pending on.last on.now
        on.stores next_is.comes next_is.saved in
        let journaled = stored.journaled in
        in_two image (journaled.at_savepoint image crashed)

-- ---- whatever was promised

module _ {D : Type 0} (medium : D → Medium) (w : DurableValue) (disk disk' : D)
    (fit : ProcessImagesFitAreas) (is : IsProcess w.process)
    (takes : TakesRecords Two w.store.geometry.journal_sectors) where
  pub migrates : (v : ProcessValue) → BarsAndCommits medium w.store w.process v disk disk'
      → Migrates medium w disk disk'
  migrates v bars m config guest promise stage p opened narrow =
      migrates_by medium m config guest promise stage p w disk opened narrow fit is takes v disk'
      bars

  pub ends_in_two : (after : WorkerStore)
      → StoresNext w.store after (upgraded w.process) (medium disk) (medium disk')
      → EndsInTwo w (medium disk) (medium disk')
  ends_in_two after stores m config guest promise stage p opened narrow =
      ends_by medium m config guest promise stage p w disk opened narrow fit is takes after disk'
      stores

-- where nothing was asked of the disk
pub nothing_migrates : {D : Type 0} (medium : D → Medium) (w : DurableValue) (disk : D)
    → Migrates medium w disk disk
nothing_migrates medium w disk m config guest promise stage p opened narrow =
    inl (leaves_only (medium disk) (medium disk) (StandsInOne m config promise)
    (started (medium disk) (StandsInOne m config promise))
    (λ image crashed. in_one medium m config guest promise stage p w disk opened narrow image
    (keeps_now medium m config guest promise p p.steps promise.events w.store disk opened.on_disk
    image crashed)))
