-- A worker that is created on a disk.
use Rattle.std.proofs.Common.{◌≡◌, ◌⊎◌, ℕ, ◌+◌, ◌*◌, ◌<◌, ◌≤◌, ◌^◌, List, [], ◌∷◌, ◌++◌, length}
use Rattle.std.proofs.Common.{take, refl, sym, ap, ◌∙◌, subst, inl, ⊎_elim, arith}
use Rattle.std.proofs.lemmas.Bool.{cases_lt}
use Rattle.std.proofs.lemmas.List.{append-nil}
use Rattle.std.specs.Prelude.{true, Result, Ok, Err, IfOk, IfErr}
use Rattle.wasm_syntax.specs.declared.module.Module.{Module}
use Rattle.wasm_syntax.proofs.Grammar.Exact.{some_is}
use Rattle.wasm_syntax.proofs.Grammar.Whole.{module_complete}
use Rattle.wasm_rules.specs.Acceptance.{IsAccepted}
use Rattle.wasi_abi.specs.rules.Configs.{Settings, AreSettingsWithinLimits}
use Rattle.wasi_calls_rules.specs.laws.Laws.{IsOfBytes}
use Rattle.machine.specs.rules.Offers.{offer}
use Rattle.process_rules.specs.Processes.{ProcessState, Guest, IsStart, host_of}
use Rattle.process_rules.specs.Runs.{Kept, Runs, none}
use Rattle.process_rules.proofs.Growing.{start_counts}
use Rattle.process.specs.rules.Values.{ProcessValue, ShowsProcess, IsProcess}
use Rattle.state_image.specs.rules.ProcessImage.{Saved, process_image}
use Rattle.state_image.specs.rules.Saving.{saved_of}
use Rattle.state_image.specs.rules.WellTyped.{IsWellTyped}
use Rattle.state_image.proofs.ReachedWellTyped.{saved_is_well_typed}
use Rattle.sector_disk.specs.declared.sector.TheConstants.{SECTOR_SIZE}
use Rattle.sector_disk.specs.rules.DiskImage.{DiskImage}
use Rattle.sector_disk.specs.rules.Medium.{Medium, LeavesOnly, PerformsCalls, CallsUpTo}
use Rattle.sector_disk.proofs.CallLemmas.{no_calls}
use Rattle.sector_disk.proofs.Moments.{leaves_only, leaves_weaker, started}
use Rattle.disk_layout.specs.declared.fault.LayoutFault.TheVariants as layout
use Rattle.disk_layout.specs.declared.geometry.Geometry.{Geometry}
use Rattle.disk_layout.specs.rules.Places.{geometry_of, total_sectors}
use Rattle.disk_layout.specs.rules.Sectors.{HasWorker}
use Rattle.worker_store.specs.restart_theorem.Stands.{IsBlank}
use Rattle.worker_store.specs.restart_theorem.Between.{FindsNoWorker}
use Rattle.worker_store.specs.restart_theorem.Lives.{Inputs, Opened, Creates}
use Rattle.worker_store.specs.restart_theorem.Courses.{at_beginning}
use Rattle.worker_store.specs.restart_theorem.Promises.{Promise, after}
use Rattle.worker_store.specs.restart_theorem.Holds.{IsNothingYet, DiskImageHolds, IsBounded}
use Rattle.worker_store.specs.restart_theorem.Holds.{StaysWithin}
use Rattle.worker_store.proofs.RestartLemmas.Disks.{blank_is_within, stands_within}
use Rattle.worker_store.specs.rules.Savepoints.{Savepoint, BeginsAtPoint, IsAtSavepoint}
use Rattle.worker_store.specs.rules.Carried.{IsHeldAt}
use Rattle.worker_store.specs.laws.CallEnds.{IsSavedAs}
use Rattle.worker_store.specs.laws.AtHand.{IsFirstOf}
use Rattle.worker_store.specs.laws.Anew.{OpensAtFirst}
use Rattle.worker_store.proofs.LawLemmas.Anew.{creation_opens}
use Rattle.worker_store.proofs.LawLemmas.AtHand.{first_is_at_hand, shown_is_saved, same_within}
use Rattle.worker_store.proofs.LawLemmas.Carrying.{creation_carries, begins_carried}
use Rattle.worker_store.proofs.LawLemmas.Carrying.{fresh_is_held, opening_is_held}
use Rattle.worker_store.proofs.LawLemmas.Points.{point_stands_alone}
use Rattle.worker_store.proofs.LawLemmas.Raising.{all_syncs_are_held}
use Rattle.worker_store.proofs.LawLemmas.Reopening.{no_lines, lives_open, fresh_holds_nothing}
use Rattle.worker_store.proofs.LawLemmas.Reopening.{fresh_lives_begin}
use Rattle.worker_store.specs.declared.fault.StoreFault.{StoreFault}
use Rattle.worker_store.specs.declared.fault.StoreFault.TheVariants as store
use Rattle.worker_store.specs.declared.store.WorkerStore.{WorkerStore}
use Rattle.worker_store.specs.laws.Laws.{ProcessImagesFitAreas}
use Rattle.worker_store.specs.rules.Creations.{IsFirstPoint, LeavesBlankOrFirst, StoresFirst}
use Rattle.worker_store.specs.rules.Creations.{CreationFails, creation_calls}
use Rattle.worker_store.specs.rules.Stores.{IsStoreOf}
use Rattle.worker_store.proofs.LawLemmas.Telling.{max_within}
use Rattle.record_replay.specs.Turns.{working}
use Rattle.record_replay.specs.rules.Workers.{IsCreated}
use Rattle.worker.specs.declared.fault.WorkFault.{WorkFault}
use Rattle.worker.specs.Laying.{fresh_of, worker_laid}
use Rattle.worker.specs.rules.CallCounts.{most_creating}
use Rattle.worker.specs.rules.DurableCreations.{places_for, IsCreatedOn, IsNotCreatedOn}
use Rattle.worker.specs.rules.DurableCreations.{CreationCalls, CreationKeeps, OpensOn}
use Rattle.worker.specs.rules.DurableCreations.{IsRefusedAtFirst, LeavesCreation}
use Rattle.worker.specs.rules.WorkFaults.{fault_of_store}
use Rattle.worker.proofs.RestoringLemmas.{few_pages}

-- ---- a disk that is left alone

-- it keeps what was promised, which is nothing
left_alone : {D : Type 0} (medium : D → Medium) (m : Module) (config : Settings)
    (promise : Promise) (old new : D) → new ≡ old → IsNothingYet promise
    → FindsNoWorker (medium old) → LeavesCreation m config promise promise (medium old) (medium new)
left_alone {D} medium m config promise old new same nothing blank =
    subst (λ (d : D). LeavesCreation m config promise promise (medium old) (medium d)) (sym same)
    (record {
      carried = record {
        at_any_moment = leaves_only (medium old) (medium old) P (started (medium old) P) holds;
        in_the_end = holds;
      };
      bounded = leaves_only (medium old) (medium old) Q (started (medium old) Q)
          (λ image crashed.
          blank_is_within image (promise.events + 1) (medium old).sectors (blank image crashed));
      counted = omega arith;
    })
  where
    P : DiskImage → Type 0
    P = DiskImageHolds m config promise promise

    Q : DiskImage → Type 0
    Q = IsBounded (promise.events + 1) (medium old).sectors

    holds : (image : DiskImage) → (medium old).crash_images image → P image
    holds image crashed = inl (nothing, blank image crashed)

pub refused_keeps : {D : Type 0} (medium : D → Medium) (bytes : List ℕ) (config : Settings)
    (why : WorkFault) (disk : D)
    → CreationKeeps bytes config (Err why) (medium disk) (medium disk)
refused_keeps medium bytes config why disk m promise inputs accepted nothing created blank =
    left_alone medium m config promise disk disk refl nothing blank

-- and it was asked for nothing
pub refused_calls : (bytes : List ℕ) (config : Settings) (why : WorkFault) (disk : Medium)
    → CreationCalls bytes config (Err why) disk disk
refused_calls bytes config why disk =
    (0, omega arith, no_calls (creation_calls (places_for config bytes) 0) disk)

-- ---- numbers and lists

take_none : (kept : List Kept) → take 0 kept ≡ []
take_none [] = refl
take_none (given ∷ kept) = refl

none_within : (n k : ℕ) → n ≡ 0 → n ≤ k
none_within n k e = omega (arith, e)

-- ---- errors

-- where the image of the process fits into its area
module _ {D : Type 0} (medium : D → Medium) (bytes : List ℕ) (config : Settings)
    (v : ProcessValue) (fits : length (process_image (saved_of v))
    ≤ SECTOR_SIZE * (places_for config bytes).area_sectors) where
  pub creation_faults : (old new : Medium) (fault : StoreFault)
      → CreationFails (places_for config bytes) v old new fault
      → IsNotCreatedOn bytes config old new (fault_of_store fault)
  creation_faults old new store.TooBig long = absurd (omega (arith, long, fits))
  creation_faults old new (store.Layout layout.TooSmall) small = small
  creation_faults old new (store.Layout layout.NotAWorker) h = absurd h
  creation_faults old new (store.Layout layout.Version) h = absurd h
  creation_faults old new (store.Layout (layout.Damaged why)) h = absurd h
  creation_faults old new (store.Layout layout.Memory) h = absurd h
  creation_faults old new (store.Layout (layout.Disk why)) h = absurd h
  creation_faults old new (store.Disk why) h = h
  creation_faults old new store.Memory h = tt
  creation_faults old new store.Full h = absurd h
  creation_faults old new store.TooLong h = absurd h
  creation_faults old new store.Damaged h = absurd h
  creation_faults old new store.Failed h = absurd h

  pub faults_at_first : (old new : D) (fault : StoreFault)
      → CreationFails (places_for config bytes) v (medium old) (medium new) fault
      → ((medium old).sectors < total_sectors (places_for config bytes) → new ≡ old)
      → (fault ≡ store.Memory → new ≡ old) → IsRefusedAtFirst (fault_of_store fault) → new ≡ old
  faults_at_first old new (store.Layout layout.TooSmall) small same stays refused = same small
  faults_at_first old new (store.Layout layout.NotAWorker) h same stays refused = absurd h
  faults_at_first old new (store.Layout layout.Version) h same stays refused = absurd h
  faults_at_first old new (store.Layout (layout.Damaged why)) h same stays refused = absurd h
  faults_at_first old new (store.Layout layout.Memory) h same stays refused = absurd h
  faults_at_first old new (store.Layout (layout.Disk why)) h same stays refused = absurd h
  faults_at_first old new store.TooBig long same stays refused =
      absurd (omega (arith, long, fits))
  faults_at_first old new (store.Disk why) h same stays refused = absurd refused
  faults_at_first old new store.Memory h same stays refused = stays refl
  faults_at_first old new store.Full h same stays refused = absurd h
  faults_at_first old new store.TooLong h same stays refused = absurd h
  faults_at_first old new store.Damaged h same stays refused = absurd h
  faults_at_first old new store.Failed h same stays refused = absurd h

-- ---- the first savepoint

-- the bytes spell one module
pub one_module : (bytes : List ℕ) (config : Settings) (m other : Module)
    → IsAccepted offer config.pages bytes m → IsAccepted offer config.pages bytes other
    → m ≡ other
one_module bytes config m other accepted again = some_is m other
    (sym (module_complete bytes m accepted.spelled)
    ∙ module_complete bytes other again.spelled)

module _ {D : Type 0} (medium : D → Medium) (bytes : List ℕ) (m : Module) (config : Settings)
    (v : ProcessValue) (point : Savepoint m config) (first : IsFirstPoint bytes v point) where
  pub first_is_within : (latest sectors : ℕ) (image : DiskImage) → 1 ≤ latest
      → total_sectors (places_for config bytes) ≤ sectors
      → IsAtSavepoint point [] point.process image → IsBounded latest sectors image
  first_is_within latest sectors image counted room at =
      let here = point_stands_alone m config point image at in
      let generation : here.stands.generation ≡ 1 = here.generation ∙ first.generation in
      stands_within image m config point.front point.steps latest sectors here.stands
      (same_within here.stands.generation 1 latest generation counted)
      (subst (λ (wasm : List ℕ). total_sectors (geometry_of config (length wasm)) ≤ sectors)
      (sym (here.wasm ∙ first.wasm)) room)

  pub stays_within : (latest : ℕ) (old new : D) → 1 ≤ latest
      → total_sectors (places_for config bytes) ≤ (medium old).sectors
      → LeavesOnly (medium old) (medium new) (λ image. IsBlank image ⊎ BeginsAtPoint point image)
      → StaysWithin latest (medium old) (medium new)
  stays_within latest old new counted room leaves =
      leaves_weaker (medium old) (medium new)
      (λ image. IsBlank image ⊎ BeginsAtPoint point image)
      (IsBounded latest (medium old).sectors) leaves
      (λ image either. ⊎_elim
      (λ (blank : IsBlank image). blank_is_within image latest (medium old).sectors blank)
      (λ (there : BeginsAtPoint point image).
      first_is_within latest (medium old).sectors image counted room there.at) either)

-- ---- a process that has begun

pub short_enough : (bytes : List ℕ) (config : Settings) (v : ProcessValue)
    → IsCreated bytes config (working v) → length bytes < 2 ^ 32
short_enough bytes config v begun =
    let size : length bytes ≤ 2097152 = begun.accepted.limits.size in
    omega (arith, size)

module _ {D : Type 0} (medium : D → Medium) (bytes : List ℕ) (config : Settings)
    (v : ProcessValue) (fit : ProcessImagesFitAreas) (limits : AreSettingsWithinLimits config)
    (texts : IsOfBytes (host_of config)) (is : IsProcess v)
    (begun : IsCreated bytes config (working v)) where
  begins : IsStart begun.spelled config begun.started.first_guest begun.started.first
  begins = begun.started.is_first

  shows : ShowsProcess v begun.started.first_guest begun.started.first
  shows = begun.started.shows begun.started.first_guest begun.started.first begun.started.is_first

  found : (first : Savepoint begun.spelled config)
      × IsFirstOf bytes begun.started.first_guest begun.started.first v first
  found = first_is_at_hand begun.spelled config bytes begun.started.first_guest
      begun.started.first v begun.accepted limits begins shows is begun.started.guest

  is_first_point : IsFirstPoint bytes v found.0
  is_first_point = let of_first = found.1 in record {
    generation = of_first.generation;
    wasm = of_first.wasm;
    saved = of_first.saved;
    numbers = of_first.numbers;
  }

  fits : length (process_image (saved_of v)) ≤ SECTOR_SIZE * (places_for config bytes).area_sectors
  fits =
      let pages = limits.in_range.pages in
      let typed : IsWellTyped begun.spelled config (saved_of v) =
      saved_is_well_typed bytes begun.spelled config [] 0 v begun.started.first begun.accepted
      (few_pages config.pages pages.1) texts (record {
        guest = begun.started.first_guest;
        start = begun.started.first;
        begins = begins;
        runs = none;
      }) begun.started.guest is shows in
      fit begun.spelled config (saved_of v) (length bytes) typed

  -- ---- errors

  pub laid_refused : (laid : Result WorkerStore StoreFault) (old new : D)
      → IfErr laid (CreationFails (places_for config bytes) v (medium old) (medium new))
      → IfErr (worker_laid v laid) (IsNotCreatedOn bytes config (medium old) (medium new))
  laid_refused (Ok made) old new fails = tt
  laid_refused (Err why) old new fails =
      creation_faults medium bytes config v fits (medium old) (medium new) why fails

  pub laid_untouched : (laid : Result WorkerStore StoreFault) (old new : D)
      → IfErr laid (CreationFails (places_for config bytes) v (medium old) (medium new))
      → ((medium old).sectors < total_sectors (places_for config bytes) → new ≡ old)
      → IfErr laid (λ why. why ≡ store.Memory → new ≡ old)
      → IfErr (worker_laid v laid) (λ why. IsRefusedAtFirst why → new ≡ old)
  laid_untouched (Ok made) old new fails same stays = tt
  laid_untouched (Err why) old new fails same stays =
      faults_at_first medium bytes config v fits old new why fails same stays

  pub laid_calls : (laid : Result WorkerStore StoreFault) (old new : Medium)
      → PerformsCalls (creation_calls (places_for config bytes)
      (length (process_image (saved_of v)))) laid old new → CreationCalls bytes config
      (worker_laid v laid) old new
  laid_calls (Ok made) old new makes = makes.all
  laid_calls (Err why) old new makes = (length (process_image (saved_of v)), fits, makes.begun)

  -- ---- the disk at any moment

  -- an error
  failed_leaves : (promise : Promise) (old new : D) → IsNothingYet promise
      → promise.was_created ≡ true
      → FindsNoWorker (medium old) → LeavesBlankOrFirst config bytes v (medium old) (medium new)
      → ((medium old).sectors < total_sectors (places_for config bytes) → new ≡ old)
      → CallsUpTo (most_creating (medium old).sectors) (medium old) (medium new)
      → LeavesCreation begun.spelled config promise promise (medium old) (medium new)
  failed_leaves promise old new nothing created blank leaves same few =
      ⊎_elim
      (λ (small : (medium old).sectors < total_sectors (places_for config bytes)).
      left_alone medium begun.spelled config promise old new (same small) nothing blank)
      (λ (room : total_sectors (places_for config bytes) ≤ (medium old).sectors).
      written (leaves begun.spelled found.0 is_first_point blank) room)
      (cases_lt (medium old).sectors (total_sectors (places_for config bytes)))
    where
      written : LeavesOnly (medium old) (medium new)
          (λ image. IsBlank image ⊎ BeginsAtPoint found.0 image)
          → total_sectors (places_for config bytes) ≤ (medium old).sectors
          → LeavesCreation begun.spelled config promise promise (medium old) (medium new)
      written only room = let of_first = found.1 in record {
        carried = creation_carries medium begun.spelled config promise found.0 old new nothing
            created of_first.front of_first.no_lines only;
        bounded = stays_within medium bytes begun.spelled config v found.0 is_first_point
            (promise.events + 1) old new (omega arith) room only;
        counted = few;
      }

  -- ---- a worker

  module _ (made : WorkerStore) (new : D)
      (stores : StoresFirst config bytes v made (medium new)) where
    stored : IsStoreOf found.0 made [] [] found.0.process found.0.process (medium new)
    stored = stores begun.spelled found.0 is_first_point

    created_on : IsCreatedOn bytes config (fresh_of v made) (medium new)
    created_on =
        let of_first = found.1 in
        let is_stored = stored in
        record {
          spelled = begun.spelled;
          accepted = begun.accepted;
          started = begun.started;
          generation = is_stored.journaled.generation ∙ of_first.generation;
          none_replayed = refl;
          unfailed = is_stored.works;
          abreast = refl;
          geometry = is_stored.geometry
              ∙ ap (λ (wasm : List ℕ). geometry_of config (length wasm)) of_first.wasm;
          contents = λ image crashed. let at = is_stored.journaled.at_savepoint image crashed in
              subst (λ (wasm : List ℕ). HasWorker config wasm image) of_first.wasm at.worker;
          room = subst (λ (g : Geometry). total_sectors g ≤ (medium new).sectors)
              (sym is_stored.geometry) is_stored.sectors;
        }

    -- what the opening promises is held at the first savepoint
    held_at_first : (promise : Promise) → IsNothingYet promise → promise.was_created ≡ true
        → IsHeldAt (after promise (Opened 0 (saved_of v))) found.0 [] found.0.process
    held_at_first promise nothing created =
        let of_first = found.1 in
        let none_taken : length found.0.front ≡ 0 =
        ap (λ (l : List Kept). length l) of_first.front in
        subst (λ (s : Saved). IsHeldAt (after promise (Opened 0 s)) found.0 [] found.0.process)
        of_first.saved
        (subst (λ (n : ℕ).
        IsHeldAt (after promise (Opened n found.0.saved)) found.0 [] found.0.process) none_taken
        (opening_is_held begun.spelled config promise found.0
        (fresh_is_held begun.spelled config promise found.0 nothing created of_first.front
        of_first.no_lines)))

    done_leaves : (promise : Promise) (old : D) → IsNothingYet promise
        → promise.was_created ≡ true → FindsNoWorker (medium old)
        → LeavesBlankOrFirst config bytes v (medium old) (medium new)
        → CallsUpTo (most_creating (medium old).sectors) (medium old) (medium new)
        → LeavesCreation begun.spelled config promise (after promise (Opened 0 (saved_of v)))
        (medium old) (medium new)
    done_leaves promise old nothing created blank leaves few =
        let of_first = found.1 in
        let is_stored = stored in
        let only = leaves begun.spelled found.0 is_first_point blank in
        let opens : OpensAtFirst promise (saved_of v) found.0 (medium old) (medium new) =
        creation_opens medium begun.spelled config promise (saved_of v) found.0 old new nothing
        created of_first.front of_first.no_lines of_first.saved only
        is_stored.journaled.at_savepoint in
        let long : (medium new).sectors ≡ (medium old).sectors = only.passes.sectors in
        let places_fit : total_sectors (places_for config bytes) ≤ (medium old).sectors =
        subst (λ (n : ℕ). total_sectors (places_for config bytes) ≤ n) long
        (subst (λ (wasm : List ℕ).
        total_sectors (geometry_of config (length wasm)) ≤ (medium new).sectors) of_first.wasm
        is_stored.sectors) in
        record {
          carried = opens.carries;
          bounded = stays_within medium bytes begun.spelled config v found.0 is_first_point
              (promise.events + 1) old new (omega arith) places_fit only;
          counted = few;
        }

    opens_on : (old : D) (promise : Promise) (inputs : Inputs) → IsNothingYet promise
        → promise.was_created ≡ true
        → LeavesBlankOrFirst config bytes v (medium old) (medium new)
        → CallsUpTo (most_creating (medium old).sectors) (medium old) (medium new)
        → OpensOn begun.spelled config promise inputs (fresh_of v made) (medium old) (medium new)
    opens_on old promise inputs nothing created leaves few =
        let guest : Guest = begun.started.first_guest in
        let start : ProcessState = begun.started.first in
        let of_first = found.1 in
        let is_stored = stored in
        let saved : IsSavedAs begun.spelled config guest start (saved_of v) =
        shown_is_saved begun.spelled config guest v start shows begun.started.guest in
        let life = lives_open begun.spelled config guest promise (at_beginning Creates inputs) 0
        start (saved_of v)
        (fresh_lives_begin begun.spelled config guest promise inputs start nothing begins) saved
        created (fresh_holds_nothing begun.spelled config guest promise start nothing begins)
        (inl refl) in
        let more : Promise = after promise (Opened 0 (saved_of v)) in
        let lines : length start.host.lines ≡ 0 =
        no_lines begun.spelled config guest start begins in
        let none_passed : promise.passed ≡ 0 = ap (λ (z : Promise). z.passed) nothing in
        let none_begun : promise.begun ≡ 0 = ap (λ (z : Promise). z.begun) nothing in
        let counted : (saved_of v).steps ≡ start.steps = saved.shows.steps in
        let no_steps : start.steps ≡ 0 =
        start_counts begun.spelled config guest start begins in
        let kept : take 0 promise.kept ≡ found.0.front ++ [] =
        take_none promise.kept ∙ sym (append-nil found.0.front ∙ of_first.front) in
        let numbered : found.0.generation ≡ 1 = of_first.generation in
        record {
          guest = guest;
          process = start;
          kept = (life.0, tt);
          anew = (refl, counted ∙ no_steps);
          opened = record {
            works = is_stored.works;
            opened = refl;
            shows = shows;
            module_is = begun.started.guest;
            between = life.1;
            heard = none_within (length start.host.lines) promise.heard lines;
            passed = max_within (saved_of v).lines promise.passed (length start.host.lines)
                (same_within _ _ _ saved.shows.lines (omega arith))
                (none_within promise.passed (length start.host.lines) none_passed);
            none_waits = begun.started.none_waits;
            texts = texts;
            on_disk = record {
              point = found.0;
              same = of_first.same;
              records = [];
              pending = [];
              last = found.0.process;
              now = found.0.process;
              stores = is_stored;
              carried = begins_carried medium begun.spelled config more found.0 made.journal new
                  (held_at_first promise nothing created) is_stored.journaled;
              on_record = kept;
              n = 0;
              runs = subst (λ (z : ProcessState). Runs guest z [] 0 start) (sym of_first.process)
                  none;
              syncs = all_syncs_are_held begun.spelled config more found.0 [] start.steps kept;
              early = omega (arith, numbered);
            };
            synced = same_within (saved_of v).steps start.steps start.steps counted (omega arith);
            abreast = record {
              none_beyond = λ here. none_within promise.begun (length start.host.lines) none_begun;
              says_so = λ abreast. refl;
            };
          };
          leaves = λ blank. done_leaves promise old nothing created blank leaves few;
        }

  -- ---- whatever has come of it

  pub laid_created : (laid : Result WorkerStore StoreFault) (new : D)
      → IfOk laid (λ made. StoresFirst config bytes v made (medium new))
      → IfOk (worker_laid v laid) (λ w. IsCreatedOn bytes config w (medium new))
  laid_created (Ok made) new stores = created_on made new stores
  laid_created (Err why) new stores = tt

  pub laid_keeps : (laid : Result WorkerStore StoreFault) (old new : D)
      → LeavesBlankOrFirst config bytes v (medium old) (medium new)
      → IfOk laid (λ made. StoresFirst config bytes v made (medium new))
      → ((medium old).sectors < total_sectors (places_for config bytes) → new ≡ old)
      → CallsUpTo (most_creating (medium old).sectors) (medium old) (medium new)
      → CreationKeeps bytes config (worker_laid v laid) (medium old) (medium new)
  laid_keeps (Ok made) old new leaves stores same few other promise inputs accepted nothing
      created =
      subst (λ (z : Module). OpensOn z config promise inputs (fresh_of v made) (medium old)
      (medium new)) (one_module bytes config begun.spelled other
      begun.accepted accepted)
      (opens_on made new stores old promise inputs nothing created leaves few)
  laid_keeps (Err why) old new leaves stores same few other promise inputs accepted nothing
      created =
      λ blank. subst (λ (z : Module). LeavesCreation z config promise promise (medium old)
      (medium new)) (one_module bytes config begun.spelled other
      begun.accepted accepted)
      (failed_leaves promise old new nothing created blank leaves same few)
