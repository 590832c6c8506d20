-- What a commit leaves.
use Rattle.std.proofs.Common.{◌≡◌, ◌≢◌, ℕ, ◌+◌, ◌-◌, ◌*◌, ◌%◌, ◌<◌, ◌≤◌, List, length}
use Rattle.std.proofs.Common.{sym, ap, subst, inl, inr, ⊎_elim, arith}
use Rattle.sha2.specs.Sha256.{sha256}
use Rattle.wasm_syntax.specs.declared.module.Module.{Module}
use Rattle.wasi_abi.specs.rules.Configs.{Settings}
use Rattle.process_rules.specs.Processes.{ProcessState}
use Rattle.state_image.specs.rules.ProcessImage.{process_image}
use Rattle.sector_disk.specs.rules.DiskImage.{DiskImage, sector_at}
use Rattle.disk_layout.specs.rules.Places.{Geometry, geometry_of, head_place, journal_place}
use Rattle.disk_layout.specs.rules.Sectors.{Head, HasWorker, IsNewest, shown_generation}
use Rattle.disk_layout.specs.rules.Journal.{Record}
use Rattle.wasi_abi.specs.rules.Versions.{version_number}
use Rattle.journal.specs.rules.Steps.{ShowsEarlierThan}
use Rattle.snapshot.specs.rules.Heads.{heads_to, IsReadyForHead}
use Rattle.snapshot.specs.rules.Steps.{KeepsNewest, HasNew, IsOutsideArea}
use Rattle.snapshot.proofs.AreaLemmas.{parity}
use Rattle.record_replay.specs.rules.Records.{none}
use Rattle.worker_store.specs.restart_theorem.Stands.{IsNumbered}
use Rattle.worker_store.specs.rules.Savepoints.{Savepoint, places, IsAtSavepoint, BeginsAtPoint}
use Rattle.worker_store.specs.rules.Savepoints.{IsNextPoint}
use Rattle.worker_store.specs.laws.Commits.{NewPointBegins, PointIsReady, FillingKeepsPoint}
use Rattle.worker_store.specs.laws.Commits.{CommitLeavesOneOfTwo, CommitBeginsNext}
use Rattle.worker_store.proofs.LawLemmas.Sectors.{SameSector, worker_stays, none_later_of}
use Rattle.worker_store.proofs.LawLemmas.Sectors.{none_after_of}
use Rattle.journal.proofs.HeldLemmas.{holds_still, holds_none_of_later}

-- ---- places outside an area

pub super_outside : (geometry : Geometry) (g : ℕ) → IsOutsideArea geometry g 0
super_outside geometry g = inl (omega arith)

pub contents_outside : (geometry : Geometry) (g k : ℕ) → k < 3 + geometry.module_sectors
    → IsOutsideArea geometry g k
contents_outside geometry g k below = inl (omega (arith, below))

pub journal_outside : (geometry : Geometry) (g k : ℕ)
    → IsOutsideArea geometry g (journal_place geometry + k)
journal_outside geometry g k =
    let at : ℕ → ℕ = λ p. 3 + geometry.module_sectors + p * geometry.area_sectors in
    ⊎_elim
    (λ (e : g % 2 ≡ 0). (let here = ap at e in inr (omega (arith, here))))
    (λ (e : g % 2 ≡ 1). (let here = ap at e in inr (omega (arith, here))))
    (parity g)

pub super_no_head : (g : ℕ) → 0 ≢ head_place g
super_no_head g e = omega (arith, e)

pub later_no_head : (g k : ℕ) → 3 ≤ k → k ≢ head_place g
later_no_head g k from e = omega (arith, from, e)

pub journal_from : (geometry : Geometry) (k : ℕ) → 3 ≤ journal_place geometry + k
journal_from geometry k = omega arith

-- ---- heads

heads_within : (disk : DiskImage) (g : ℕ) → shown_generation 1 (sector_at disk 1) ≤ g
    → shown_generation 1 (sector_at disk 2) ≤ g → heads_to disk ≤ g
heads_within disk g first second = omega (arith, first, second)

first_within : (disk : DiskImage) (g : ℕ) → heads_to disk ≤ g
    → shown_generation 1 (sector_at disk 1) ≤ g
first_within disk g within = omega (arith, within)

second_within : (disk : DiskImage) (g : ℕ) → heads_to disk ≤ g
    → shown_generation 1 (sector_at disk 2) ≤ g
second_within disk g within = omega (arith, within)

pub point_is_ready : PointIsReady
point_is_ready m config point records last disk at =
    let same : point.generation ≡ point.generation + 1 - 1 = omega arith in
    let shows = at.none_later in
    let within = heads_within disk point.generation shows.first_head shows.second_head in
    let head : Head = record {
      version = version_number point.saved.version;
      length_in_bytes = length (process_image point.saved);
      digest = sha256 (process_image point.saved);
      generation = point.generation;
    } in
    let held = at.holds in
    record {
      before = inr (head, subst (λ g. IsNewest disk g head) same held.newest);
      none_later = omega (arith, within);
    }

-- ---- where the old head is left

-- the same but for sectors of the area, and a head that isn't found
kept_point : (m : Module) (config : Settings) (point : Savepoint m config)
    (records : List Record) (last : ProcessState) (old new : DiskImage)
    → IsAtSavepoint point records last old → SameSector old new 0
    → ((k : ℕ) → 3 ≤ k → k < 3 + (places point).module_sectors → SameSector old new k)
    → ((k : ℕ) → SameSector old new (journal_place (places point) + k))
    → KeepsNewest (places point) old new → IsAtSavepoint point records last new
kept_point m config point records last old new at super contents journal keeps =
    let shows = at.none_later in
    let was = heads_within old point.generation shows.first_head shows.second_head in
    let within : heads_to new ≤ point.generation =
    subst (λ n. n ≤ point.generation) (sym keeps.heads) was in
    record {
      worker = worker_stays config point.wasm old new super contents at.worker;
      holds = keeps.process_image point.generation (version_number point.saved.version)
          (process_image point.saved) at.holds;
      in_journal = holds_still (places point) point.saved.version point.generation records old new
          (λ k below. journal k) at.in_journal;
      recorded = at.recorded;
      numbers = at.numbers;
      none_later = record {
        first_head = first_within new point.generation within;
        second_head = second_within new point.generation within;
        journal = λ k below.
            subst (λ s. shown_generation (k + 1) s ≤ point.generation) (sym (journal k))
            (shows.journal k below);
      };
    }

pub filling_keeps_point : FillingKeepsPoint
filling_keeps_point m config point records last old new at fills =
    let g : ℕ = point.generation + 1 in
    kept_point m config point records last old new at
    (fills.others 0 (super_outside (places point) g))
    (λ k from below. fills.others k (contents_outside (places point) g k below))
    (λ k. fills.others (journal_place (places point) + k) (journal_outside (places point) g k))
    (fills.newest (point_is_ready m config point records last old at))

-- ---- where the new one is there

pub new_point_begins : NewPointBegins
new_point_begins m config point disk numbers worker new earlier =
    let within : heads_to disk ≤ point.generation = same_within _ _ new.heads in
    record {
      at = record {
        worker = worker;
        holds = new.holds;
        in_journal = holds_none_of_later (places point) point.saved.version point.generation disk
            earlier;
        recorded = none;
        numbers = numbers;
        none_later = none_later_of (places point) disk point.generation
            (first_within disk point.generation within)
            (second_within disk point.generation within)
            (λ k below. less_within _ _ (earlier k below));
      };
      earlier = earlier;
    }
  where
    same_within : (a b : ℕ) → a ≡ b → a ≤ b
    same_within a b e = omega (arith, e)

    less_within : (a b : ℕ) → a < b → a ≤ b
    less_within a b less = omega (arith, less)

-- with the bytes of another savepoint
begins_with : (m : Module) (config : Settings) (next : Savepoint m config) (wasm : List ℕ)
    (disk : DiskImage) → IsNumbered next.process → next.wasm ≡ wasm → HasWorker config wasm disk
    → HasNew (geometry_of config (length wasm)) next.generation
    (version_number next.saved.version) (process_image next.saved) disk
    → ShowsEarlierThan (geometry_of config (length wasm)) next.generation disk
    → BeginsAtPoint next disk
begins_with m config next wasm disk numbers e worker new earlier =
    let place : List ℕ → Geometry = λ w. geometry_of config (length w) in
    new_point_begins m config next disk numbers
    (subst (λ w. HasWorker config w disk) (sym e) worker)
    (subst (λ w. HasNew (place w) next.generation (version_number next.saved.version)
    (process_image next.saved) disk) (sym e) new)
    (subst (λ w. ShowsEarlierThan (place w) next.generation disk) (sym e) earlier)

module _ (m : Module) (config : Settings) (point next : Savepoint m config)
    (records : List Record) (last : ProcessState) (old new : DiskImage)
    (at : IsAtSavepoint point records last old) (is_next : IsNextPoint point next)
    (others : (k : ℕ) → IsOutsideArea (places point) next.generation k
    → k ≢ head_place next.generation → SameSector old new k) where
  ready : IsReadyForHead next.generation old
  ready = subst (λ g. IsReadyForHead g old) (sym is_next.generation)
      (point_is_ready m config point records last old at)

  super : SameSector old new 0
  super = others 0 (super_outside (places point) next.generation)
      (super_no_head next.generation)

  contents : (k : ℕ) → 3 ≤ k → k < 3 + (places point).module_sectors → SameSector old new k
  contents k from below =
      others k (contents_outside (places point) next.generation k below)
      (later_no_head next.generation k from)

  journal : (k : ℕ) → SameSector old new (journal_place (places point) + k)
  journal k = others (journal_place (places point) + k)
      (journal_outside (places point) next.generation k)
      (later_no_head next.generation (journal_place (places point) + k)
      (journal_from (places point) k))

  old_stays : KeepsNewest (places point) old new → IsAtSavepoint point records last new
  old_stays keeps =
      kept_point m config point records last old new at super contents journal keeps

  earlier : ShowsEarlierThan (places point) next.generation new
  earlier k below =
      let was = none_after_of (places point) old point.generation at.none_later k below in
      let less : shown_generation (1 + k) (sector_at old (journal_place (places point) + k))
      < next.generation = below_next _ point.generation next.generation was is_next.generation in
      subst (λ s. shown_generation (1 + k) s < next.generation) (sym (journal k)) less
    where
      below_next : (n g h : ℕ) → n ≤ g → h ≡ g + 1 → n < h
      below_next n g h le e = omega (arith, le, e)

  new_begins : HasNew (places point) next.generation (version_number next.saved.version)
      (process_image next.saved) new
      → BeginsAtPoint next new
  new_begins has =
      begins_with m config next point.wasm new is_next.numbers is_next.wasm
      (worker_stays config point.wasm old new super contents at.worker) has earlier

pub commit_leaves_one_of_two : CommitLeavesOneOfTwo
commit_leaves_one_of_two m config point next records last old new at is_next commits =
    ⊎_elim
    (λ keeps. inl (old_stays m config point next records last old new at is_next commits.others
    keeps))
    (λ has. inr (new_begins m config point next records last old new at is_next commits.others
    has))
    (commits.newest (ready m config point next records last old new at is_next commits.others))

pub commit_begins_next : CommitBeginsNext
commit_begins_next m config point next records last old new at is_next replaces =
    new_begins m config point next records last old new at is_next replaces.others
    (replaces.newest (ready m config point next records last old new at is_next replaces.others))
