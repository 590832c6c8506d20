-- The calls of a store, by the laws of the worker on its disk.
use Rattle.std.proofs.Common.{◌≡◌, ◌<◌, ◌≤◌, ◌⊎◌, ◌^◌, ℕ, ◌+◌, List, [], ◌++◌, length, inl, inr}
use Rattle.std.proofs.Common.{refl, sym, ap, ◌∙◌, subst, ⊎_elim, arith, Bool, true, false, Err}
use Rattle.std.proofs.lemmas.Bool.{cases_lt}
use Rattle.std.proofs.lemmas.List.{length-append}
use Rattle.sector_disk.specs.declared.fault.DiskFault.TheVariants.{Range}
use Rattle.sector_disk.specs.rules.DiskImage.{DiskImage}
use Rattle.sector_disk.specs.rules.Medium.{Medium, After, Follows, IsAllSynced, LeavesOnly}
use Rattle.sector_disk.specs.rules.Medium.{CallsUpTo}
use Rattle.disk_layout.specs.declared.geometry.Geometry.{Geometry}
use Rattle.wasi_abi.specs.rules.Versions.{version_number}
use Rattle.disk_layout.specs.rules.Places.{total_sectors, geometry_of}
use Rattle.disk_layout.specs.rules.Journal.{Record, record_bytes}
use Rattle.journal.specs.declared.fault.JournalFault.{JournalFault}
use Rattle.journal.specs.declared.fault.JournalFault.TheVariants as of_journal
use Rattle.journal.specs.rules.Barriers.{StoresKept}
use Rattle.journal.specs.rules.State.{JournalState, state}
use Rattle.journal.specs.rules.Steps.{AppendsFront, HoldsRecords, IsOn}
use Rattle.snapshot.specs.rules.Steps.{Commits, Replaces}
use Rattle.process.specs.rules.Values.{ProcessValue}
use Rattle.state_image.specs.rules.ProcessImage.{Saved, process_image}
use Rattle.state_image.specs.rules.Saving.{saved_of}
use Rattle.wasm_syntax.specs.declared.module.Module.{Module}
use Rattle.wasi_abi.specs.rules.Configs.{Settings}
use Rattle.worker_store.specs.restart_theorem.Stands.{IsNumbered}
use Rattle.worker_store.specs.rules.Savepoints.{BeginsAtPoint, LeavesAll, Savepoint, places}
use Rattle.worker_store.specs.rules.Savepoints.{IsJournaled}
use Rattle.worker_store.proofs.LawLemmas.Keeping.{barrier_at_any_moment, barrier_in_the_end}
use Rattle.worker_store.proofs.LawLemmas.Keeping.{append_goes_on, begins_journaled}
use Rattle.worker_store.proofs.LawLemmas.Passing.{commit_at_any_moment, commit_in_the_end}
use Rattle.worker_store.proofs.LawLemmas.Passing.{commit_keeps_at_any_moment}
use Rattle.worker_store.proofs.LawLemmas.Passing.{commit_keeps_in_the_end}
use Rattle.worker_store.specs.declared.store.WorkerStore.{WorkerStore}
use Rattle.worker_store.specs.laws.Laws.{AppendStores}
use Rattle.worker_store.specs.rules.Stores.{IsStoreOf, failed_store}
use Rattle.worker_store.specs.rules.Calls.{LeavesBeforeOrNext, LeavesPointOrNext, StoresAgain}
use Rattle.worker_store.specs.rules.Calls.{LeavesFronts, StoresAll, LeavesOneOfTwo, StoresNext}
use Rattle.worker_store.specs.rules.Calls.{BarrierFails}
use Rattle.worker_store.specs.rules.Faults.{fault_of_journal}
use Rattle.worker_store.specs.declared.fault.StoreFault.{StoreFault}
use Rattle.worker_store.specs.declared.fault.StoreFault.TheVariants.{Full, Disk}

-- ---- commits

-- what a commit of this process, as this generation, leaves of a disk at any moment
abbrev Committing : Medium → Medium → Geometry → ℕ → Saved → Type 0
Committing old new geometry generation saved = LeavesOnly old new
    (After (Commits geometry generation (version_number saved.version) (process_image saved))
    old.crash_images)

-- and in the end
abbrev Committed : Medium → Medium → Geometry → ℕ → Saved → Type 0
Committed old new geometry generation saved = Follows
    (Replaces geometry generation (version_number saved.version) (process_image saved))
    old.crash_images new.crash_images

-- what is said of these is said of what is the same
moved : (P : Geometry → ℕ → Saved → Type 0) {g h : Geometry} {n k : ℕ} {s t : Saved} → g ≡ h
    → n ≡ k → s ≡ t → P g n s → P h k t
moved P {g} {h} {n} {k} {s} {t} place number same held =
    subst (λ (x : Geometry). P x k t) place
    (subst (λ (x : ℕ). P g x t) number (subst (λ (x : Saved). P g n x) same held))

-- ---- records

module _ {D : Type 0} (medium : D → Medium) where
  pub append_stores : AppendStores medium
  append_stores m config point store records pending last now asks next a n disk is runs moves fits
      numbers room =
      let r : Record = record { step = next.steps; answer = a } in
      let more = length-append store.journal.kept (record_bytes store.journal.version r) in
      let many = ap (λ (g : Geometry). g.journal_sectors) is.geometry in
      record {
        works = refl;
        geometry = is.geometry;
        journaled =
            append_goes_on medium m config point store.journal
            (state store.journal.version store.journal.generation store.journal.used
            (store.journal.kept ++ record_bytes store.journal.version r) false) records pending
            last now asks next a n disk is.journaled runs moves fits numbers refl;
        fits = omega (arith, more, many, room, is.fits);
        sectors = is.sectors;
        all_synced = is.all_synced;
        early = is.early;
      }

  -- what a barrier leaves, and what it leaves after Ok
  module _ (before : WorkerStore) (old new : D)
      (leaves : (records kept : List Record)
      → IsOn before.geometry before.journal.version before.journal.generation before.journal.used
      before.journal.kept records kept (medium old).crash_images
      → LeavesOnly (medium old) (medium new)
      (After (AppendsFront before.geometry before.journal.version before.journal.generation
      before.journal.used records kept) (medium old).crash_images)) where
    pub barrier_leaves : LeavesFronts before (medium old) (medium new)
    barrier_leaves m config point records pending last now is =
        let journal = before.journal in
        let journaled = is.journaled in
        barrier_at_any_moment medium m config point journal records pending last now old new
        journaled
        (subst (λ (g : Geometry). LeavesOnly (medium old) (medium new)
        (After (AppendsFront g journal.version journal.generation journal.used records
        pending)
        (medium old).crash_images)) is.geometry
        (leaves records pending
        (subst (λ (g : Geometry). IsOn g journal.version journal.generation journal.used
        journal.kept records pending (medium old).crash_images) (sym is.geometry) journaled.on)))

    pub barrier_stores : (after : WorkerStore) (used : ℕ)
        → after.journal ≡ state before.journal.version before.journal.generation used [] false
        → after.geometry ≡ before.geometry
        → ((records kept : List Record)
        → IsOn before.geometry before.journal.version before.journal.generation
        before.journal.used before.journal.kept records kept (medium old).crash_images
        → (image : DiskImage) → (medium new).crash_images image
        → HoldsRecords before.geometry after.journal.version after.journal.generation
        after.journal.used (records ++ kept) image)
        → (length before.journal.kept ≡ 0) ⊎ IsAllSynced (medium new)
        → (length before.journal.kept ≡ 0 → new ≡ old)
        → StoresAll before after (medium old) (medium new)
    barrier_stores after used e same durable all_synced quiet m config point
        records pending last now is =
        let journal = before.journal in
        let journaled = is.journaled in
        let on : IsOn before.geometry journal.version journal.generation journal.used journal.kept
        records pending (medium old).crash_images =
        subst (λ (g : Geometry). IsOn g journal.version journal.generation journal.used
        journal.kept records pending (medium old).crash_images) (sym is.geometry) journaled.on in
        let all = leaves records pending on in
        let p = all.passes in
        let none = ap (λ (j : JournalState). length j.kept) e in
        record {
          works = ap (λ (j : JournalState). j.has_failed) e;
          geometry = same ∙ is.geometry;
          journaled =
              barrier_in_the_end medium m config point journal after.journal records pending last
              now used old new journaled
              (subst (λ (g : Geometry). LeavesOnly (medium old) (medium new)
              (After (AppendsFront g journal.version journal.generation journal.used records
              pending)
              (medium old).crash_images)) is.geometry all) e
              (subst (λ (g : Geometry). (image : DiskImage) → (medium new).crash_images image
              → HoldsRecords g after.journal.version after.journal.generation
              after.journal.used (records ++ pending) image) is.geometry
              (durable records pending on));
          fits = omega (arith, none);
          sectors = let s = is.sectors in omega (arith, s, p.sectors);
          all_synced = ⊎_elim (λ quiet_one. subst (λ (d : D). IsAllSynced (medium d))
              (sym (quiet quiet_one)) is.all_synced) (λ done. done) all_synced;
          early = is.early;
        }

  -- a disk that begins at a savepoint, with a fresh journal
  pub begun_stored : (m : Module) (config : Settings) (point : Savepoint m config)
      (store : WorkerStore)
      (new : D) (g : ℕ) → g ≡ point.generation → g < 2 ^ 63
      → store.geometry ≡ places point → store.journal ≡ state point.saved.version g 0 [] false
      → total_sectors store.geometry ≤ (medium new).sectors → IsAllSynced (medium new)
      → LeavesAll (medium new) (BeginsAtPoint point) → IsNumbered point.process
      → IsStoreOf point store [] [] point.process point.process (medium new)
  begun_stored m config point store new g numbered early placed e sectors all_synced begins
      numbers =
      let below : point.generation < 2 ^ 63 = subst (λ k. k < 2 ^ 63) numbered early in
      let fresh : store.journal ≡ state point.saved.version point.generation 0 [] false =
      e ∙ ap (λ k. state point.saved.version k 0 [] false) numbered in
      let none = ap (λ (j : JournalState). length j.kept) e in
      record {
        works = ap (λ (j : JournalState). j.has_failed) e;
        geometry = placed;
        journaled = subst (λ (j : JournalState).
            IsJournaled point j [] [] point.process point.process (medium new)) (sym fresh)
            (begins_journaled medium m config point new begins (omega (arith, below)) numbers);
        fits = omega (arith, none);
        sectors = subst (λ (g : Geometry). total_sectors g ≤ (medium new).sectors) placed sectors;
        all_synced = all_synced;
        early = below;
      }

  -- what a commit leaves, and what it leaves after Ok
  module _ (before : WorkerStore) (process : ProcessValue) (old new : D) (n : ℕ)
      (counts : before.journal.generation < 2 ^ 63 → n ≡ before.journal.generation + 1) where
    pub commit_leaves : LeavesOnly (medium old) (medium new)
        (After (Commits before.geometry n (version_number (saved_of process).version)
        (process_image (saved_of process)))
        (medium old).crash_images) → LeavesOneOfTwo before process (medium old) (medium new)
    commit_leaves leaves m config point next records pending last now is is_next saved =
        let journaled = is.journaled in
        let whose = journaled.generation in
        let same : n ≡ next.generation =
        counts (subst (λ k. k < 2 ^ 63) (sym whose) is.early) ∙ ap (λ k. k + 1) whose
        ∙ sym is_next.generation in
        commit_at_any_moment medium m config point next records last old new journaled.at_savepoint
        is_next
        (moved (Committing (medium old) (medium new)) is.geometry same (sym saved) leaves)

    pub commit_stores : (after : WorkerStore)
        → after.journal ≡ state (saved_of process).version n 0 [] false
        → after.geometry ≡ before.geometry
        → (medium new).sectors ≡ (medium old).sectors
        → Follows (Replaces before.geometry n (version_number (saved_of process).version)
        (process_image (saved_of process)))
        (medium old).crash_images (medium new).crash_images
        → IsAllSynced (medium new) → n < 2 ^ 63
        → StoresNext before after process (medium old) (medium new)
    commit_stores after e same sectors done all_synced early m config point next
        records pending last now is is_next saved =
        let journaled = is.journaled in
        let whose = journaled.generation in
        let numbered : n ≡ next.generation =
        counts (subst (λ k. k < 2 ^ 63) (sym whose) is.early) ∙ ap (λ k. k + 1) whose
        ∙ sym is_next.generation in
        let place : places point ≡ places next =
        ap (λ w. geometry_of config (length w)) (sym is_next.wasm) in
        let begins = commit_in_the_end medium m config point next records last old new
        journaled.at_savepoint is_next
        (moved (Committed (medium old) (medium new)) is.geometry numbered (sym saved) done) in
        let room = is.sectors in
        let where_it_is = same ∙ is.geometry in
        begun_stored m config next after new n numbered early (where_it_is ∙ place)
        (e ∙ ap (λ (s : Saved). state s.version n 0 [] false) (sym saved))
        (subst (λ (g : Geometry). total_sectors g ≤ (medium new).sectors) (sym where_it_is)
        (omega (arith, room, sectors))) all_synced begins is_next.numbers

  -- what a commit leaves of a disk that stands for a worker, and what it leaves after Ok
  module _ (geometry : Geometry) (g : ℕ) (process : ProcessValue) (old new : D) where
    pub reopening_leaves : LeavesOnly (medium old) (medium new)
        (After (Commits geometry g (version_number (saved_of process).version)
        (process_image (saved_of process)))
        (medium old).crash_images) → LeavesBeforeOrNext geometry g process (medium old) (medium new)
    reopening_leaves leaves m config next kept n again all =
        commit_keeps_at_any_moment medium m config next kept n old new all
        (moved (Committing (medium old) (medium new)) again.placed (sym again.generation)
        (sym again.saved) leaves)

    pub reopening_leaves_point : LeavesOnly (medium old) (medium new)
        (After (Commits geometry g (version_number (saved_of process).version)
        (process_image (saved_of process)))
        (medium old).crash_images) → LeavesPointOrNext geometry g process (medium old) (medium new)
    reopening_leaves_point leaves m config point next records last again comes all =
        let placed : geometry ≡ places point =
        again.placed ∙ ap (λ w. geometry_of config (length w)) comes.wasm in
        commit_at_any_moment medium m config point next records last old new all comes
        (moved (Committing (medium old) (medium new)) placed (sym again.generation)
        (sym again.saved) leaves)

    pub reopening_stores : (store : WorkerStore)
        → store.journal ≡ state (saved_of process).version g 0 [] false
        → store.geometry ≡ geometry
        → total_sectors geometry ≤ (medium new).sectors
        → Follows (Replaces geometry g (version_number (saved_of process).version)
        (process_image (saved_of process)))
        (medium old).crash_images (medium new).crash_images
        → IsAllSynced (medium new) → g < 2 ^ 63
        → StoresAgain geometry g process store (medium old) (medium new)
    reopening_stores store e same sectors done all_synced early m config next
        kept n again all =
        let begins = commit_keeps_in_the_end medium m config next kept n old new all
        (moved (Committed (medium old) (medium new)) again.placed (sym again.generation)
        (sym again.saved) done) in
        begun_stored m config next store new g (sym again.generation) early
        (same ∙ again.placed)
        (e ∙ ap (λ (s : Saved). state s.version g 0 [] false) (sym again.saved))
        (subst (λ (p : Geometry). total_sectors p ≤ (medium new).sectors) (sym same) sectors)
        all_synced begins again.numbers

-- ---- why a barrier fails

barrier_fault : (store : WorkerStore) (after : JournalState) (old new : Medium)
    (fault : JournalFault) → StoresKept store.geometry store.journal after (Err fault) old new
    → BarrierFails store old new (fault_of_journal fault)
barrier_fault store after old new of_journal.Full stores = let full = stores.full.0 refl in
    (full.1, full.2)
barrier_fault store after old new of_journal.TooLong stores = absurd (stores.not_too_long refl)
barrier_fault store after old new (of_journal.Disk fault) stores = stores.cause fault refl
barrier_fault store after old new of_journal.Memory stores = absurd (stores.no_memory refl)
barrier_fault store after old new of_journal.Failed stores = stores.failed.0 refl

pub barrier_fails_so : (store : WorkerStore) (after : JournalState) (old new : Medium)
    (fault : JournalFault) (e : StoreFault) → e ≡ fault_of_journal fault
    → StoresKept store.geometry store.journal after (Err fault) old new
    → BarrierFails store old new e
barrier_fails_so store after old new fault e is stores =
    subst (λ (f : StoreFault). BarrierFails store old new f) (sym is)
    (barrier_fault store after old new fault stores)

-- no more calls than there are sectors: on a disk that has all, and on one that is left alone
pub barrier_asks : {D : Type 0} (medium : D → Medium) (geometry : Geometry) (old new : D)
    → ((medium old).sectors < total_sectors geometry → new ≡ old)
    → CallsUpTo (geometry.journal_sectors + 1) (medium old) (medium new)
    → CallsUpTo (medium old).sectors (medium old) (medium new)
barrier_asks medium geometry old new alone asks =
    ⊎_elim (λ (few : (medium old).sectors < total_sectors geometry).
    (let same = ap (λ d. (medium d).counted) (alone few) in omega (arith, same)))
    (λ (enough : total_sectors geometry ≤ (medium old).sectors). omega (arith, enough, asks))
    (cases_lt (medium old).sectors (total_sectors geometry))

-- the fault of a journal that is told so
pub told_fault : (fault : JournalFault) (e : StoreFault) → e ≡ fault_of_journal fault
    → (fault ≡ of_journal.Full) ⊎ (fault ≡ of_journal.Disk Range)
    → (e ≡ Full) ⊎ (e ≡ Disk Range)
told_fault fault e is (inl same) = inl (is ∙ ap fault_of_journal same)
told_fault fault e is (inr same) = inr (is ∙ ap fault_of_journal same)

-- ---- what a failure changes

-- of a store that has failed, nothing
pub failed_before : (store : WorkerStore) → store.journal.has_failed ≡ true
    → store ≡ failed_store store
failed_before store failed =
    ap (λ (b : Bool). record store { journal = record store.journal { has_failed = b } }) failed
