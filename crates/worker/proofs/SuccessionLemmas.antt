-- A worker that is created to go on from what another one left.
use Rattle.std.proofs.Common.{◌≡◌, ◌⊎◌, ℕ, ◌*◌, ◌<◌, ◌≤◌, ◌^◌, List, [], length, refl, sym}
use Rattle.std.proofs.Common.{ap, ◌∙◌, subst, inl, inr, ⊎_elim, arith}
use Rattle.std.proofs.lemmas.Bool.{cases_lt}
use Rattle.std.specs.Prelude.{Result, Ok, Err, IfErr, IfOk, OnOk}
use Rattle.wasm_syntax.specs.declared.module.Module.{Module}
use Rattle.wasm_rules.specs.Acceptance.{IsAccepted}
use Rattle.wasi_abi.specs.declared.version.Version.{Version}
use Rattle.wasi_abi.specs.declared.version.Version.TheVariants.{One, Two}
use Rattle.wasi_abi.specs.rules.Configs.{Settings, AreSettingsWithinLimits}
use Rattle.wasi_calls_rules.specs.laws.Laws.{IsOfBytes}
use Rattle.machine.specs.rules.Offers.{offer}
use Rattle.process_rules.specs.Origins.{Origin}
use Rattle.process_rules.specs.Processes.{ProcessState, host_of}
use Rattle.process_rules.specs.Runs.{Reaches, first_kept, version_after}
use Rattle.process_rules.proofs.ReachedStates.{reached_versions}
use Rattle.process.specs.rules.Legacies.{LegacyValue, legacy_of, HasSucceeded}
use Rattle.process.specs.rules.Values.{ProcessValue, ShowsProcess, IsProcess}
use Rattle.state_image.specs.rules.ProcessImage.{process_image}
use Rattle.state_image.specs.rules.Saving.{saved_of}
use Rattle.state_image.specs.rules.WellTyped.{IsWellTyped}
use Rattle.state_image.proofs.ReachedWellTyped.{saved_is_well_typed}
use Rattle.sector_disk.specs.declared.sector.TheConstants.{SECTOR_SIZE}
use Rattle.sector_disk.specs.rules.DiskImage.{DiskImage}
use Rattle.sector_disk.specs.rules.Medium.{Medium, LeavesOnly, PerformsCalls}
use Rattle.sector_disk.proofs.CallLemmas.{no_calls}
use Rattle.sector_disk.proofs.Moments.{leaves_only, leaves_weaker, started}
use Rattle.disk_layout.specs.rules.Journal.{TakesRecords}
use Rattle.disk_layout.specs.rules.Places.{geometry_of, total_sectors}
use Rattle.disk_layout.specs.rules.Sectors.{HasWorker}
use Rattle.worker_store.specs.restart_theorem.Between.{FindsNoWorker}
use Rattle.worker_store.specs.restart_theorem.Holds.{HoldsPromise, IsBounded}
use Rattle.worker_store.specs.restart_theorem.Promises.{Promise}
use Rattle.worker_store.specs.restart_theorem.Stands.{IsBlank}
use Rattle.worker_store.specs.restart_theorem.Successions.{promised_from}
use Rattle.worker_store.proofs.RestartLemmas.Disks.{blank_is_within}
use Rattle.worker_store.specs.rules.Savepoints.{Savepoint, IsAtSavepoint, BeginsAtPoint}
use Rattle.worker_store.specs.laws.Succeeding.{IsFirstFrom}
use Rattle.worker_store.proofs.LawLemmas.AtHand.{version_shown}
use Rattle.worker_store.proofs.LawLemmas.Succeeding.{successor_holds_promise, successor_is_at_hand}
use Rattle.worker_store.specs.declared.fault.StoreFault.{StoreFault}
use Rattle.worker_store.specs.declared.fault.StoreFault.TheVariants as store
use Rattle.worker_store.specs.declared.store.WorkerStore.{WorkerStore}
use Rattle.worker_store.specs.laws.Laws.{ProcessImagesFitAreas}
use Rattle.worker_store.specs.rules.Creations.{IsFirstPoint, LeavesBlankOrFirst, StoresFirst}
use Rattle.worker_store.specs.rules.Creations.{CreationFails, creation_calls}
use Rattle.worker_store.specs.rules.Stores.{IsStoreOf}
use Rattle.worker.specs.declared.fault.WorkFault.{WorkFault}
use Rattle.worker.specs.declared.fault.WorkFault.TheVariants.{Work, Disk, Store, Upgrade}
use Rattle.worker.specs.rules.DurableCreations.{places_for, IsNotCreatedOn, IsRefusedAtFirst}
use Rattle.worker.specs.rules.Successions.{IsCreatedFrom, IsNotCreatedFrom, IsRefusedBefore}
use Rattle.worker.specs.rules.Successions.{KeepsSuccessor, LeavesSuccessor, SuccessionCalls}
use Rattle.worker.specs.rules.Successions.{SuccessionKeeps}
use Rattle.worker.specs.rules.WorkFaults.{fault_of_store}
use Rattle.worker.specs.Succeeding.{BeginsFrom, told_of}
use Rattle.worker.proofs.CreationLemmas.{creation_faults, faults_at_first, first_is_within}
use Rattle.worker.proofs.CreationLemmas.{one_module, stays_within}
use Rattle.worker.proofs.RestoringLemmas.{few_pages}

-- ---- a disk that is left alone

module _ {D : Type 0} (medium : D → Medium) (m : Module) (config : Settings) (promise : Promise)
    (disk : D) (blank : FindsNoWorker (medium disk)) where
  abbrev P : DiskImage → Type 0
  P image = IsBlank image ⊎ HoldsPromise m config promise promise image

  abbrev Q : DiskImage → Type 0
  Q = IsBounded promise.events (medium disk).sectors

  left_alone : LeavesSuccessor m config promise (medium disk) (medium disk)
  left_alone = record {
    any_moment = leaves_only (medium disk) (medium disk) P (started (medium disk) P)
        (λ image crashed. inl (blank image crashed));
    bounded = leaves_only (medium disk) (medium disk) Q (started (medium disk) Q)
        (λ image crashed.
        blank_is_within image promise.events (medium disk).sectors (blank image crashed));
  }

-- where the creation is refused
pub refused_keeps : {D : Type 0} (medium : D → Medium) (bytes : List ℕ) (config : Settings)
    (left : LegacyValue) (why : WorkFault) (disk : D)
    → SuccessionKeeps bytes config left (Err why) (medium disk) (medium disk)
refused_keeps medium bytes config left why disk m v o accepted same =
    (λ blank. left_alone medium m config (promised_from v o) disk blank, tt)

-- and it was asked for nothing
pub refused_calls : {T : Type 0} (bytes : List ℕ) (config : Settings) (why : WorkFault)
    (disk : Medium) → SuccessionCalls {T = T} bytes config (Err why) disk disk
refused_calls bytes config why disk = (
  0,
  omega arith,
  record { all = tt; begun = no_calls (creation_calls (places_for config bytes) 0) disk },
)

-- ---- errors

-- want of memory, and what is wrong with the module
pub not_begun : (bytes : List ℕ) (config : Settings) (left : LegacyValue) (old new : Medium)
    (why : WorkFault) → IsNotCreatedOn bytes config old new why
    → IsNotCreatedFrom bytes config left old new why
not_begun bytes config left old new (Work why) is = is
not_begun bytes config left old new (Disk fault) is = is
not_begun bytes config left old new (Store why) is = is
not_begun bytes config left old new (Upgrade why) is = absurd is

at_first : (why : StoreFault) → IsRefusedBefore (fault_of_store why)
    → IsRefusedAtFirst (fault_of_store why)
at_first (store.Disk fault) is = is
at_first store.Memory is = is
at_first store.Failed is = is
at_first store.Full is = is
at_first store.TooLong is = is
at_first store.TooBig is = is
at_first store.Damaged is = is
at_first (store.Layout fault) is = is

-- ---- a process that goes on from what was left

first_version : (v : Version) (o : Origin) → version_after (first_kept v o) ≡ v
first_version One o = refl
first_version Two o = refl

pub short_enough : (bytes : List ℕ) (m : Module) (config : Settings)
    → IsAccepted offer config.pages bytes m → length bytes < 2 ^ 32
short_enough bytes m config accepted =
    let size : length bytes ≤ 2097152 = accepted.limits.size in omega (arith, size)

module _ {D : Type 0} (medium : D → Medium) (bytes : List ℕ) (m : Module) (config : Settings)
    (left : LegacyValue) (v : ProcessValue) (limits : AreSettingsWithinLimits config)
    (is : IsProcess v) (takes : TakesRecords left.version config.journal)
    (accepted : IsAccepted offer config.pages bytes m) (succeeded : HasSucceeded m config left v)
    (w : Version) (o : Origin) (same : left ≡ legacy_of w o) where
  shown : (p : ProcessState) × (r : Reaches m config (first_kept w o) o.steps p)
      × ShowsProcess v r.guest p
  shown = succeeded.shows w o same

  -- its image fits into its area
  fits : ProcessImagesFitAreas → IsOfBytes (host_of config)
      → length (process_image (saved_of v)) ≤ SECTOR_SIZE * (places_for config bytes).area_sectors
  fits fit texts =
      let pages = limits.in_range.pages in
      let s = shown in
      let typed : IsWellTyped m config (saved_of v) =
      saved_is_well_typed bytes m config (first_kept w o) o.steps v s.0 accepted
      (few_pages config.pages pages.1) texts s.1 succeeded.guest is s.2 in
      fit m config (saved_of v) (length bytes) typed

  takes_saved : TakesRecords (saved_of v).version config.journal
  takes_saved =
      let s = shown in
      let version : left.version ≡ w = ap (λ (l : LegacyValue). l.version) same in
      subst (λ (z : Version). TakesRecords z config.journal)
      (version ∙ sym (first_version w o)
      ∙ sym (reached_versions m config (first_kept w o) o.steps s.0 s.1)
      ∙ sym (version_shown s.1.guest v s.0 s.2)) takes

  abbrev promise : Promise
  promise = promised_from w o

  found : (first : Savepoint m config) × IsFirstFrom w o bytes shown.0 v first
  found =
      let s = shown in
      successor_is_at_hand m config w o bytes s.0 v accepted limits s.1 s.2 is succeeded.guest
      takes_saved

  first : IsFirstPoint bytes v found.0
  first = let of_first = found.1 in record {
    generation = of_first.generation;
    wasm = of_first.wasm;
    saved = of_first.saved;
    numbers = of_first.numbers;
  }

  holds : (image : DiskImage) → IsAtSavepoint found.0 [] found.0.process image
      → HoldsPromise m config promise promise image
  holds image at = successor_holds_promise m config w o bytes shown.0 v found.0 image found.1 at

  room_for : (sectors : ℕ) → total_sectors (geometry_of config (length found.0.wasm)) ≤ sectors
      → total_sectors (places_for config bytes) ≤ sectors
  room_for sectors room =
      subst (λ (wasm : List ℕ). total_sectors (geometry_of config (length wasm)) ≤ sectors)
      first.wasm room

  written : (old new : D) → total_sectors (places_for config bytes) ≤ (medium old).sectors
      → LeavesOnly (medium old) (medium new) (λ image. IsBlank image ⊎ BeginsAtPoint found.0 image)
      → LeavesSuccessor m config promise (medium old) (medium new)
  written old new room only = record {
    any_moment = leaves_weaker (medium old) (medium new)
        (λ image. IsBlank image ⊎ BeginsAtPoint found.0 image)
        (λ image. IsBlank image ⊎ HoldsPromise m config promise promise image) only
        (λ image either. ⊎_elim
        (λ (blank : IsBlank image). inl blank)
        (λ (there : BeginsAtPoint found.0 image). inr (holds image there.at)) either);
    bounded = stays_within medium bytes m config v found.0 first 1 old new (omega arith) room only;
  }

  leaves : (old new : D) → LeavesBlankOrFirst config bytes v (medium old) (medium new)
      → ((medium old).sectors < total_sectors (places_for config bytes) → new ≡ old)
      → FindsNoWorker (medium old) → LeavesSuccessor m config promise (medium old) (medium new)
  leaves old new leaves_first untouched blank =
      ⊎_elim
      (λ (small : (medium old).sectors < total_sectors (places_for config bytes)).
      subst (λ (d : D). LeavesSuccessor m config promise (medium old) (medium d))
      (sym (untouched small)) (left_alone medium m config promise old blank))
      (λ (room : total_sectors (places_for config bytes) ≤ (medium old).sectors).
      written old new room (leaves_first m found.0 first blank))
      (cases_lt (medium old).sectors (total_sectors (places_for config bytes)))

  module _ (made : WorkerStore) (new : D)
      (stores : StoresFirst config bytes v made (medium new)) where
    stored : IsStoreOf found.0 made [] [] found.0.process found.0.process (medium new)
    stored = stores m found.0 first

    keeps : KeepsSuccessor m config promise (medium new)
    keeps =
        let is_stored = stored in
        record {
          all_synced = is_stored.all_synced;
          kept = λ image crashed.
              inr (holds image (is_stored.journaled.at_savepoint image crashed));
          bounded = λ image crashed.
              first_is_within medium bytes m config v found.0 first 1 (medium new).sectors image
              (omega arith) (room_for (medium new).sectors is_stored.sectors)
              (is_stored.journaled.at_savepoint image crashed);
        }

    created_from : IsCreatedFrom bytes config (medium new)
    created_from =
        let is_stored = stored in
        record {
          spelled = m;
          accepted = accepted;
          contents = λ image crashed. (let at = is_stored.journaled.at_savepoint image crashed in
              subst (λ (wasm : List ℕ). HasWorker config wasm image) first.wasm at.worker);
          room = room_for (medium new).sectors is_stored.sectors;
        }

-- ---- whatever has come of it

module _ {D : Type 0} (medium : D → Medium) (bytes : List ℕ) (config : Settings)
    (left : LegacyValue) (v : ProcessValue) (fit : ProcessImagesFitAreas)
    (limits : AreSettingsWithinLimits config) (texts : IsOfBytes (host_of config))
    (is : IsProcess v) (takes : TakesRecords left.version config.journal)
    (begun : BeginsFrom bytes config left v) where
  small_enough : length (process_image (saved_of v))
      ≤ SECTOR_SIZE * (places_for config bytes).area_sectors
  small_enough =
      let some = begun.some in
      fits medium bytes begun.spelled config left v limits is takes begun.accepted begun.succeeded
      left.version some.origin some.is fit texts

  pub laid_created : (laid : Result WorkerStore StoreFault) (new : D)
      → IfOk laid (λ made. StoresFirst config bytes v made (medium new))
      → OnOk (told_of laid) (IsCreatedFrom bytes config (medium new))
  laid_created (Ok made) new stores =
      let some = begun.some in
      created_from medium bytes begun.spelled config left v limits is takes begun.accepted
      begun.succeeded left.version some.origin some.is made new stores
  laid_created (Err why) new stores = tt

  pub laid_refused : (laid : Result WorkerStore StoreFault) (old new : D)
      → IfErr laid (CreationFails (places_for config bytes) v (medium old) (medium new))
      → IfErr (told_of laid) (IsNotCreatedFrom bytes config left (medium old) (medium new))
  laid_refused (Ok made) old new fails = tt
  laid_refused (Err why) old new fails =
      not_begun bytes config left (medium old) (medium new) (fault_of_store why)
      (creation_faults medium bytes config v small_enough (medium old) (medium new) why fails)

  pub laid_untouched : (laid : Result WorkerStore StoreFault) (old new : D)
      → IfErr laid (CreationFails (places_for config bytes) v (medium old) (medium new))
      → ((medium old).sectors < total_sectors (places_for config bytes) → new ≡ old)
      → IfErr laid (λ why. why ≡ store.Memory → new ≡ old)
      → IfErr (told_of laid) (λ why. IsRefusedBefore why → new ≡ old)
  laid_untouched (Ok made) old new fails same stays = tt
  laid_untouched (Err why) old new fails same stays = λ refused.
      faults_at_first medium bytes config v small_enough old new why fails same stays
      (at_first why refused)

  pub laid_calls : (laid : Result WorkerStore StoreFault) (old new : Medium)
      → PerformsCalls (creation_calls (places_for config bytes)
      (length (process_image (saved_of v)))) laid old new
      → SuccessionCalls bytes config (told_of laid) old new
  laid_calls (Ok made) old new makes = (
    length (process_image (saved_of v)),
    small_enough,
    record { all = makes.all; begun = makes.begun },
  )
  laid_calls (Err why) old new makes = (
    length (process_image (saved_of v)),
    small_enough,
    record { all = tt; begun = makes.begun },
  )

  pub laid_keeps : (laid : Result WorkerStore StoreFault) (old new : D)
      → LeavesBlankOrFirst config bytes v (medium old) (medium new)
      → IfOk laid (λ made. StoresFirst config bytes v made (medium new))
      → ((medium old).sectors < total_sectors (places_for config bytes) → new ≡ old)
      → SuccessionKeeps bytes config left (told_of laid) (medium old) (medium new)
  laid_keeps laid old new leaves_first stores untouched m w o accepted same = (
    leaves medium bytes m config left v limits is takes accepted there w o same old new
        leaves_first untouched,
    kept laid stores,
  )
    where
      there : HasSucceeded m config left v
      there = subst (λ (z : Module). HasSucceeded z config left v)
          (one_module bytes config begun.spelled m begun.accepted accepted) begun.succeeded

      kept : (laid : Result WorkerStore StoreFault)
          → IfOk laid (λ made. StoresFirst config bytes v made (medium new))
          → OnOk (told_of laid) (KeepsSuccessor m config (promised_from w o) (medium new))
      kept (Ok made) stores =
          keeps medium bytes m config left v limits is takes accepted there w o same made new
          stores
      kept (Err why) stores = tt
