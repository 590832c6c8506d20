-- What a barrier leaves.
use Rattle.std.proofs.Common.{◌≡◌, ℕ, zero, suc, ◌+◌, ◌<◌, List, [], ◌∷◌, ◌++◌, refl, sym, ap, ◌∙◌}
use Rattle.std.proofs.Common.{arith, append_assoc}
use Rattle.std.specs.Prelude.{map, length, take}
use Rattle.std.proofs.lemmas.List.{map-append}
use Rattle.std.proofs.Math.Seq.{take-append-add}
use Rattle.wasm_syntax.specs.declared.module.Module.{Module}
use Rattle.wasi_abi.specs.rules.Configs.{Settings}
use Rattle.process_rules.specs.Processes.{ProcessState, Guest}
use Rattle.process_rules.specs.Runs.{Kept}
use Rattle.sector_disk.specs.rules.DiskImage.{DiskImage}
use Rattle.disk_layout.specs.rules.Places.{Geometry, journal_place}
use Rattle.disk_layout.specs.rules.Journal.{Record}
use Rattle.journal.specs.rules.Steps.{JournalHolds, SameOthers, ShowsNoneAfter}
use Rattle.journal.proofs.HeldLemmas.{holds_what_is_stored}
use Rattle.journal.proofs.SpelledLemmas.{both_fit}
use Rattle.record_replay.specs.rules.Records.{Recorded, none, more, given_in}
use Rattle.record_replay.proofs.Recordings.{recorded_join}
use Rattle.worker_store.specs.restart_theorem.Stands.{IsNumbered}
use Rattle.worker_store.proofs.RestartLemmas.NumbersKept.{records_keep_numbers}
use Rattle.worker_store.specs.rules.Savepoints.{Savepoint, places, IsAtSavepoint}
use Rattle.worker_store.specs.laws.Savepoints.{point_of}
use Rattle.worker_store.specs.laws.Barriers.{RecordedOnce, BarrierLeavesFront, BarrierLeavesAll}
use Rattle.worker_store.specs.laws.Barriers.{FrontStands, BarrierStands}
use Rattle.worker_store.proofs.LawLemmas.Sectors.{worker_stays, process_image_below, contents_below}
use Rattle.worker_store.proofs.LawLemmas.Sectors.{some_below, SameSector, none_later_of, head_stays}
use Rattle.worker_store.proofs.LawLemmas.Points.{recorded_front, point_stands, is_at_its_savepoint}

-- ---- records

pub recorded_once : RecordedOnce
recorded_once guest p q r s records a n recorded runs moves =
    recorded_join guest p q s records (record { step = s.steps; answer = a } ∷ []) recorded
    (more runs moves none)

-- ---- an image

-- all below the journal stays
below_same : (geometry : Geometry) (used : ℕ) (old new : DiskImage)
    → SameOthers geometry used old new → (k : ℕ) → k < journal_place geometry → SameSector old new k
below_same geometry used old new others k below =
    others.below k (from_below (journal_place geometry) used k below)
  where
    from_below : (j used k : ℕ) → k < j → k < j + used
    from_below j used k below = omega (arith, below)

-- with other records in its journal
with_journal : (m : Module) (config : Settings) (point : Savepoint m config)
    (records later : List Record) (last q : ProcessState) (used : ℕ) (old new : DiskImage)
    → IsAtSavepoint point records last old → SameOthers (places point) used old new
    → ShowsNoneAfter (places point) point.generation new
    → JournalHolds (places point) point.saved.version point.generation later new
    → Recorded point.reached.guest point.process later q → IsNumbered q
    → IsAtSavepoint point later q new
with_journal m config point records later last q used old new at others none_later in_journal
    recorded numbers =
    let same = below_same (places point) used old new others in
    let now = at.none_later in
    record {
      worker = worker_stays config point.wasm old new
          (same 0 (some_below (places point) 0 (omega arith)))
          (λ k from below. same k (contents_below (places point) k below)) at.worker;
      holds = process_image_below (places point) old new point.generation _ _ same at.holds;
      in_journal = in_journal;
      recorded = recorded;
      numbers = numbers;
      none_later = none_later_of (places point) new point.generation
          (head_stays old new point.generation 1
          (same 1 (some_below (places point) 1 (omega arith))) now.first_head)
          (head_stays old new point.generation 2
          (same 2 (some_below (places point) 2 (omega arith))) now.second_head)
          none_later;
    }

pub barrier_leaves_front : BarrierLeavesFront
barrier_leaves_front m config point records pending last q used old new at recorded numbers
    appends =
    let guest : Guest = point.reached.guest in
    let front = recorded_front guest last q pending appends.count recorded in
    let all = recorded_join guest point.process last front.process records
    (take appends.count pending) at.recorded front.recorded in
    record {
      count = appends.count;
      within = appends.within;
      process = front.process;
      recorded = front.recorded;
      at = with_journal m config point records (records ++ take appends.count pending) last
          front.process used old new at appends.others appends.none_later appends.in_journal all
          (records_keep_numbers guest front.process q front.others front.on numbers);
    }

pub barrier_leaves_all : BarrierLeavesAll
barrier_leaves_all m config point records pending last q used count old new at recorded numbers
    appends fit fit_pending stands =
    let in_journal = holds_what_is_stored (places point) point.saved.version point.generation
    count (records ++ pending) new stands (both_fit point.saved.version records pending fit
    fit_pending) in
    let all = recorded_join point.reached.guest point.process last q records pending at.recorded
    recorded in
    with_journal m config point records (records ++ pending) last q used old new at
    appends.others appends.none_later in_journal all numbers

-- ---- what it stands for

take_from : {X : Type 0} (xs ys : List X) (n : ℕ) → n ≡ length xs → (k : ℕ)
    → take (n + k) (xs ++ ys) ≡ xs ++ take k ys
take_from xs ys n e k = ap (λ i. take (i + k) (xs ++ ys)) e ∙ take-append-add xs ys k

front_of_map : (records : List Record) (k : ℕ)
    → map given_in (take k records) ≡ take k (map given_in records)
front_of_map [] zero = refl
front_of_map [] (suc k) = refl
front_of_map (r ∷ records) zero = refl
front_of_map (r ∷ records) (suc k) = ap (λ l. given_in r ∷ l) (front_of_map records k)

pub length_of_map : (records : List Record) → length (map given_in records) ≡ length records
length_of_map [] = refl
length_of_map (r ∷ records) = ap (λ (n : ℕ). suc n) (length_of_map records)

-- the answers of a prefix of the records
pub front_kept : (front : List Kept) (records pending : List Record) (count : ℕ)
    → take (length front + length records + count) (front ++ map given_in (records ++ pending))
    ≡ front ++ map given_in (records ++ take count pending)
front_kept front records pending count =
    let first : List Kept = map given_in records in
    let rest : List Kept = map given_in pending in
    let e : length front + length records + count ≡ length front + (length records + count) =
    omega arith in
    ap (λ n. take n (front ++ map given_in (records ++ pending))) e
    ∙ take-append-add front (map given_in (records ++ pending)) (length records + count)
    ∙ ap (λ l. front ++ take (length records + count) l) (map-append given_in records pending)
    ∙ ap (λ l. front ++ l)
    (take_from first rest (length records) (sym (length_of_map records)) count)
    ∙ ap (λ l. front ++ (first ++ l)) (sym (front_of_map pending count))
    ∙ ap (λ l. front ++ l) (sym (map-append given_in records (take count pending)))

pub front_stands : FrontStands
front_stands m config point records pending last disk kept all at =
    point_stands m config point (records ++ take at.count pending) at.process disk
    (take (length point.front + length records + at.count) kept) at.at
    (ap (λ l. take (length point.front + length records + at.count) l) all
    ∙ front_kept point.front records pending at.count)

-- with the answers of more records after those of some
kept_further : (front kept : List Kept) (records others : List Record)
    → kept ≡ front ++ map given_in records
    → kept ++ map given_in others ≡ front ++ map given_in (records ++ others)
kept_further front kept records others rest =
    ap (λ l. l ++ map given_in others) rest
    ∙ append_assoc front (map given_in records) (map given_in others)
    ∙ ap (λ l. front ++ l) (sym (map-append given_in records others))

pub barrier_stands : BarrierStands
barrier_stands m config kept n old new stands pending q used recorded numbers appends =
    let point : Savepoint m config = point_of stands in
    let at = is_at_its_savepoint old m config kept n stands in
    let front = recorded_front stands.reached.guest stands.last q pending appends.count recorded in
    let more : List Record = take appends.count pending in
    let all = recorded_join stands.reached.guest stands.process stands.last front.process
    stands.records more stands.recorded front.recorded in
    let now = with_journal m config point stands.records (stands.records ++ more) stands.last
    front.process used old new at appends.others appends.none_later appends.in_journal all
    (records_keep_numbers stands.reached.guest front.process q front.others front.on numbers) in (
      front.process,
      front.recorded,
      point_stands m config point (stands.records ++ more) front.process new
          (kept ++ map given_in more) now
          (kept_further stands.front kept stands.records more stands.rest),
    )
