-- The first snapshot of a new worker's disk, and its super.
use Rattle.std.proofs.Common.{◌≡◌, ◌≤◌, ◌⊎◌, ℕ, List, [], ◌∷◌, ◌++◌, length, sym, ap, ◌∙◌, subst}
use Rattle.std.proofs.Common.{inl, arith, append_assoc, false}
use Rattle.std.specs.Prelude.{Result, Ok}
use Rattle.sha2.specs.Sha256.{sha256}
use Rattle.wasm_syntax.specs.declared.module.Module.{Module}
use Rattle.wasi_abi.specs.rules.Configs.{Settings}
use Rattle.process.specs.rules.Values.{ProcessValue}
use Rattle.sector_disk.specs.declared.disk_call.DiskCall.{DiskCall}
use Rattle.sector_disk.specs.rules.Calls.{rising_writes, synced_writes}
use Rattle.sector_disk.specs.rules.Medium.{Medium, After, Follows, IsAllSynced, LeavesOnly}
use Rattle.sector_disk.specs.rules.Medium.{BeginsCalls}
use Rattle.sector_disk.specs.rules.Run.{IsTornRun, IsWrittenRun}
use Rattle.sector_disk.proofs.CallLemmas.{begun_first, begun_then}
use Rattle.sector_disk.proofs.Moments.{leaves_weaker}
use Rattle.disk_layout.specs.declared.geometry.Geometry.{Geometry}
use Rattle.wasi_abi.specs.rules.Versions.{version_number}
use Rattle.disk_layout.specs.rules.Places.{area_place, config_bytes, geometry_of, rounded_up}
use Rattle.disk_layout.specs.rules.Places.{total_sectors}
use Rattle.disk_layout.specs.rules.Sectors.{super_bytes}
use Rattle.journal.specs.rules.State.{state}
use Rattle.snapshot.specs.declared.writing.Writing.TheVariants.{Whole}
use Rattle.snapshot.specs.rules.Calls.{PerformsStoresAndHead, with_head}
use Rattle.snapshot.specs.rules.Steps.{Commits, Replaces}
use Rattle.state_image.specs.rules.ProcessImage.{Saved, process_image}
use Rattle.state_image.specs.rules.Saving.{saved_of}
use Rattle.worker_store.specs.restart_theorem.Stands.{IsBlank}
use Rattle.worker_store.specs.rules.Savepoints.{Savepoint, places, BeginsAtPoint, LeavesAll}
use Rattle.worker_store.specs.laws.Creations.{AwaitsHead, AwaitsSuper, HasNoSuper, super_of_point}
use Rattle.worker_store.proofs.LawLemmas.Creating.{first_commit_keeps_no_super}
use Rattle.worker_store.proofs.LawLemmas.Creating.{first_commit_awaits_super}
use Rattle.worker_store.proofs.LawLemmas.Creating.{super_begins, whole_super_begins}
use Rattle.worker_store.proofs.LawLemmas.Passing.{step_at_any_moment, step_in_the_end}
use Rattle.worker_store.proofs.LawLemmas.Passing.{shown_in_the_end}
use Rattle.worker_store.specs.declared.store.WorkerStore.{WorkerStore}
use Rattle.worker_store.specs.rules.Creations.{IsFirstPoint, LeavesBlankOrFirst, contents_calls}
use Rattle.worker_store.specs.rules.Creations.{creation_calls, StoresFirst}
use Rattle.worker_store.proofs.StoreLemmas.{begun_stored}
use Rattle.worker_store.proofs.CreationLemmas.{leaves_on}

-- while the first snapshot is committed there is no super
pub commit_leaves_none : (geometry : Geometry) (version : ℕ) (bytes : List ℕ) (a b : Medium)
    → LeavesAll a HasNoSuper
    → LeavesOnly a b (After (Commits geometry 1 version bytes) a.crash_images)
    → LeavesOnly a b HasNoSuper
commit_leaves_none geometry version bytes a b all leaves =
    step_at_any_moment a b (Commits geometry 1 version bytes) HasNoSuper HasNoSuper all
    (λ x y none commits. first_commit_keeps_no_super geometry version bytes x y none commits) leaves

-- a disk that was blank all along
pub blank_or_first : (settings : Settings) (wasm : List ℕ) (process : ProcessValue)
    (a b : Medium) → (LeavesAll a IsBlank → LeavesOnly a b IsBlank)
    → LeavesBlankOrFirst settings wasm process a b
blank_or_first settings wasm process a b blank m point first all =
    leaves_weaker a b IsBlank (λ disk. IsBlank disk ⊎ BeginsAtPoint point disk) (blank all)
    (λ disk is. inl is)

module _ (m : Module) (settings : Settings) (point : Savepoint m settings) (config wasm : List ℕ)
    (process : ProcessValue) (geometry : Geometry) (digest : List ℕ)
    (first : IsFirstPoint wasm process point) (spelled : config ≡ config_bytes settings)
    (placed : geometry ≡ geometry_of settings (length wasm)) where
  place : geometry ≡ places point
  place = placed ∙ ap (λ w. geometry_of settings (length w)) (sym first.wasm)

  same_super : digest ≡ sha256 (config ++ wasm)
      → super_bytes geometry digest ≡ super_of_point point
  same_super is =
      ap (λ (g : Geometry). super_bytes g digest) place
      ∙ ap (λ d. super_bytes (places point) d)
      (is ∙ ap (λ c. sha256 (c ++ wasm)) spelled
      ∙ ap (λ w. sha256 (config_bytes settings ++ w)) (sym first.wasm))

  awaits_super : (a b : Medium) → LeavesAll a (AwaitsHead settings wasm)
      → Follows (Replaces geometry 1 (version_number (saved_of process).version)
      (process_image (saved_of process))) a.crash_images
      b.crash_images → LeavesAll b (AwaitsSuper point)
  awaits_super a b all follows =
      step_in_the_end a b
      (Replaces (places point) point.generation (version_number point.saved.version)
      (process_image point.saved))
      (AwaitsHead settings point.wasm) (AwaitsSuper point)
      (subst (λ w. LeavesAll a (AwaitsHead settings w)) (sym first.wasm) all)
      (λ x y awaits replaces.
      first_commit_awaits_super m settings point x y first.generation first.numbers awaits replaces)
      (subst (λ (g : Geometry). Follows
      (Replaces g point.generation (version_number point.saved.version)
      (process_image point.saved)) a.crash_images b.crash_images) place
      (subst (λ n. Follows (Replaces geometry n (version_number point.saved.version)
      (process_image point.saved)) a.crash_images
      b.crash_images) (sym first.generation)
      (subst (λ s. Follows (Replaces geometry 1 (version_number s.version)
      (process_image s)) a.crash_images b.crash_images)
      (sym first.saved) follows)))

  -- while the super is written, and once it is
  pub super_leaves : (a b c d : Medium) → digest ≡ sha256 (config ++ wasm)
      → (LeavesAll a IsBlank → LeavesOnly a c IsBlank) → LeavesAll b (AwaitsHead settings wasm)
      → Follows (Replaces geometry 1 (version_number (saved_of process).version)
      (process_image (saved_of process))) b.crash_images
      c.crash_images
      → LeavesOnly c d (After (IsTornRun 0 (super_bytes geometry digest ∷ []) 1) c.crash_images)
      → LeavesAll a IsBlank → LeavesOnly a d (λ disk. IsBlank disk ⊎ BeginsAtPoint point disk)
  super_leaves a b c d is blank awaits follows torn all =
      let last = step_at_any_moment c d (IsTornRun 0 (super_of_point point ∷ []) 1)
      (AwaitsSuper point) (λ disk. IsBlank disk ⊎ BeginsAtPoint point disk)
      (awaits_super b c awaits follows)
      (λ x y before run. super_begins m settings point x y before run)
      (subst (λ s. LeavesOnly c d (After (IsTornRun 0 (s ∷ []) 1) c.crash_images)) (same_super is)
      torn) in
      leaves_on a c d IsBlank (λ disk. IsBlank disk ⊎ BeginsAtPoint point disk)
      (λ disk. IsBlank disk ⊎ BeginsAtPoint point disk) (blank all) last (λ disk b. inl b)
      (λ disk q. q)

  pub super_stands : (b c d : Medium) → digest ≡ sha256 (config ++ wasm)
      → LeavesAll b (AwaitsHead settings wasm)
      → Follows (Replaces geometry 1 (version_number (saved_of process).version)
      (process_image (saved_of process))) b.crash_images
      c.crash_images
      → Follows (IsWrittenRun 0 (super_bytes geometry digest ∷ []) 1) c.shows d.crash_images
      → LeavesAll d (BeginsAtPoint point)
  super_stands b c d is awaits follows written =
      shown_in_the_end c d (IsWrittenRun 0 (super_of_point point ∷ []) 1) (AwaitsSuper point)
      (BeginsAtPoint point) (awaits_super b c awaits follows)
      (λ x y before run. whole_super_begins m settings point x y before run)
      (subst (λ s. Follows (IsWrittenRun 0 (s ∷ []) 1) c.shows d.crash_images) (same_super is)
      written)

-- ---- the calls

module _ (geometry : Geometry) (count : ℕ) where
  abbrev stored : List DiskCall
  stored = with_head 1 (rising_writes (area_place geometry 1) (rounded_up count))

  abbrev contents : List DiskCall
  contents = contents_calls geometry

  pub creation_first : (a b : Medium) → BeginsCalls (contents_calls geometry) a b
      → BeginsCalls (creation_calls geometry count) a b
  creation_first a b begun =
      begun_first (stored ++ contents) (synced_writes 0 1) a b
      (begun_first contents stored a b begun)

  pub creation_second : {T E : Type 0} (r : Result T E) (a b c : Medium)
      → b.calls ≡ contents_calls geometry ++ a.calls
      → PerformsStoresAndHead (record {
        writing = Whole;
        first = area_place geometry 1;
        count = rounded_up count;
      }) 1 r b c → BeginsCalls (creation_calls geometry count) a c
  creation_second r a b c made one =
      let makes = one.2 in
      begun_first (stored ++ contents) (synced_writes 0 1) a c
      (begun_then contents stored a b c made
      (subst (λ (l : List DiskCall). BeginsCalls (with_head 1 l) b c) one.1 makes.begun))

  stored_all : {T E : Type 0} (r : Result T E) (a b c : Medium)
      → b.calls ≡ contents_calls geometry ++ a.calls → (calls : List DiskCall)
      → calls ≡ rising_writes (area_place geometry 1) (rounded_up count)
      → c.calls ≡ with_head 1 calls ++ b.calls → c.calls ≡ (stored ++ contents) ++ a.calls
  stored_all r a b c made calls same all =
      all ∙ ap (λ (l : List DiskCall). with_head 1 l ++ b.calls) same
      ∙ ap (λ (l : List DiskCall). stored ++ l) made ∙ sym (append_assoc stored contents a.calls)

  pub creation_third : (a b c d : Medium) → b.calls ≡ contents_calls geometry ++ a.calls
      → (calls : List DiskCall)
      → calls ≡ rising_writes (area_place geometry 1) (rounded_up count)
      → c.calls ≡ with_head 1 calls ++ b.calls → BeginsCalls (synced_writes 0 1) c d
      → BeginsCalls (creation_calls geometry count) a d
  creation_third a b c d made calls same all begun =
      let r : Result (Unit {0}) (Unit {0}) = Ok tt in
      begun_then (stored ++ contents) (synced_writes 0 1) a c d
      (stored_all r a b c made calls same all) begun

  pub creation_all : (a b c d : Medium) → b.calls ≡ contents_calls geometry ++ a.calls
      → (calls : List DiskCall)
      → calls ≡ rising_writes (area_place geometry 1) (rounded_up count)
      → c.calls ≡ with_head 1 calls ++ b.calls → d.calls ≡ synced_writes 0 1 ++ c.calls
      → d.calls ≡ creation_calls geometry count ++ a.calls
  creation_all a b c d made calls same all last =
      let r : Result (Unit {0}) (Unit {0}) = Ok tt in
      last
      ∙ ap (λ (l : List DiskCall). synced_writes 0 1 ++ l)
      (stored_all r a b c made calls same all)
      ∙ sym (append_assoc (synced_writes 0 1) (stored ++ contents) a.calls)

-- ---- the store

pub first_stored : {D : Type 0} (medium : D → Medium) (settings : Settings) (wasm : List ℕ)
    (process : ProcessValue) (store : WorkerStore) (new : D)
    → store.geometry ≡ geometry_of settings (length wasm)
    → store.journal ≡ state (saved_of process).version 1 0 [] false
    → total_sectors store.geometry ≤ (medium new).sectors
    → IsAllSynced (medium new)
    → ((m : Module) (point : Savepoint m settings) → IsFirstPoint wasm process point
    → LeavesAll (medium new) (BeginsAtPoint point))
    → StoresFirst settings wasm process store (medium new)
first_stored medium settings wasm process store new placed fresh sectors all_synced begins m point
    first =
    begun_stored medium m settings point store new 1 (sym first.generation) (omega arith)
    (placed ∙ ap (λ w. geometry_of settings (length w)) (sym first.wasm))
    (fresh ∙ ap (λ (s : Saved). state s.version 1 0 [] false) (sym first.saved)) sectors all_synced
    (begins m point first) first.numbers
