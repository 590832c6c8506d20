-- A barrier, on what a cut may leave.
use Rattle.std.proofs.Common.{◌≡◌, ◌≤◌, ◌<◌, ◌+◌, ◌^◌, ℕ, ◌-◌, List, [], ◌∷◌, ◌++◌}
use Rattle.std.proofs.Common.{Bool, false, length, take, drop, refl, sym, ap, ◌∙◌, subst, arith}
use Rattle.std.proofs.lemmas.List.{append-nil, take_all, drop_all}
use Rattle.std.proofs.lemmas.Grind.{flat_map-append}
use Rattle.sector_disk.specs.rules.DiskImage.{DiskImage, sector_at}
use Rattle.sector_disk.specs.rules.Medium.{Medium, After, Follows, LeavesOnly, Passes}
use Rattle.sector_disk.specs.rules.Run.{IsTornRun, IsWrittenRun}
use Rattle.sector_disk.proofs.Moments.{started, weaker, leaves_only, shows_crashed, leaves_weaker}
use Rattle.wasi_abi.specs.declared.version.Version.{Version}
use Rattle.disk_layout.specs.rules.Places.{Geometry, journal_place, total_sectors}
use Rattle.disk_layout.specs.rules.Journal.{Record, record_bytes}
use Rattle.disk_layout.proofs.JournalLemmas.{length-journal_sector}
use Rattle.journal.specs.rules.Packed.{packed, sectors_for}
use Rattle.journal.specs.rules.State.{state}
use Rattle.journal.specs.rules.Steps.{HoldsBytes, HoldsRecords, AppendsFront, IsOn, records_bytes}
use Rattle.journal.proofs.PackedLemmas.{packed_at}
use Rattle.journal.proofs.RunLemmas.{IsRun, none_after, is_new, front_of_kept}
use Rattle.journal.proofs.RunLemmas.{none_later, others_same, holds_all, still_clean}
use Rattle.journal.proofs.HeldLemmas.{all_bytes, ends_where_clean, front_held}

module _ (geometry : Geometry) (v : Version) (g used : ℕ) (bytes : List ℕ)
    (records kept : List Record) (old : Medium)
    (on : IsOn geometry v g used bytes records kept old.crash_images) where
  -- where nothing is written
  stays_so : (image : DiskImage) → old.crash_images image
      → AppendsFront geometry v g used records kept image image
  stays_so image crashed =
      let holds = on.holds_records image crashed in
      let all = all_bytes geometry g used (records_bytes v records) image holds.holds_bytes
      (ends_where_clean geometry g used image holds.clean) in
      let front = front_held geometry v g image 0 records kept on.fit on.fit_kept (all
      ∙ sym (append-nil (records_bytes v records))) in
      record {
        count = front.0;
        within = front.1;
        in_journal = front.2;
        none_later = none_after geometry g used (records_bytes v records) image
            holds.holds_bytes holds.clean;
        others = record { count = refl; below = λ k lt. refl; above = λ k le. refl };
      }

  pub nothing_written : LeavesOnly old old
      (After (AppendsFront geometry v g used records kept) old.crash_images)
  nothing_written =
      leaves_only old old _ (started old _) (λ image crashed.
      (image, crashed, stays_so image crashed))

  pub still_held : length bytes ≡ 0 → (image : DiskImage) → old.crash_images image
      → HoldsRecords geometry v g used (records ++ kept) image
  still_held none image crashed =
      let holds = on.holds_records image crashed in
      let empty : records_bytes v (records ++ kept) ≡ records_bytes v records =
      flat_map-append (record_bytes v) records kept
      ∙ ap (λ l. records_bytes v records ++ l) (sym on.spells)
      ∙ ap (λ l. records_bytes v records ++ l) (nil bytes none)
      ∙ append-nil (records_bytes v records) in
      record {
        holds_bytes = subst (λ (l : List ℕ). HoldsBytes geometry g used l image) (sym empty)
            holds.holds_bytes;
        clean = holds.clean;
      }
    where
      nil : (l : List ℕ) → length l ≡ 0 → l ≡ []
      nil [] e = refl
      nil (x ∷ l) e = absurd (omega arith)

  module _ (size : total_sectors geometry ≤ old.sectors)
      (room : used + sectors_for (length bytes) ≤ geometry.journal_sectors)
      (bound : geometry.journal_sectors < 2 ^ 32) where
    run_of : (image : DiskImage) → old.crash_images image
        → IsRun geometry g used (sectors_for (length bytes)) (records_bytes v records) bytes image
    run_of image crashed =
        let is = old.is_disk_image image crashed in
        let full = is.full in
        let holds = on.holds_records image crashed in
        record {
          holds_bytes = holds.holds_bytes;
          clean = holds.clean;
          count = refl;
          room = room;
          full = λ k lt. full (journal_place geometry + k) (omega arith);
          generation = on.generation;
          places = omega arith;
        }

    pub appends : (old_image new_image : DiskImage) → old.crash_images old_image
        → IsTornRun (journal_place geometry + used)
        (packed g (used + 1) (sectors_for (length bytes)) bytes)
        (sectors_for (length bytes)) old_image new_image
        → AppendsFront geometry v g used records kept old_image new_image
    appends old_image new_image crashed torn =
        let n = sectors_for (length bytes) in
        let run = run_of old_image crashed in
        let front = front_of_kept geometry g used n (records_bytes v records) bytes old_image
        new_image run torn in
        let held = front_held geometry v g new_image front.0 records kept on.fit on.fit_kept
        (front.1 ∙ ap (λ l. records_bytes v records ++ take front.0 l) on.spells) in
        record {
          count = held.0;
          within = held.1;
          in_journal = held.2;
          none_later =
              none_later geometry g used n (records_bytes v records) bytes old_image new_image run
              torn;
          others = others_same geometry g used n (records_bytes v records) bytes old_image new_image
              run torn;
        }

    pub any_moment : (new : Medium)
        → LeavesOnly old new
        (After (IsTornRun (journal_place geometry + used)
        (packed g (used + 1) (sectors_for (length bytes)) bytes) (sectors_for (length bytes)))
        old.crash_images)
        → LeavesOnly old new (After (AppendsFront geometry v g used records kept) old.crash_images)
    any_moment new leaves =
        leaves_weaker old new _ _ leaves (λ image was. (
          was.0,
          was.1,
          appends was.0 image was.1 was.2,
        ))

    torn_of_written : (old_image new_image : DiskImage) → old.crash_images old_image
        → IsWrittenRun (journal_place geometry + used)
        (packed g (used + 1) (sectors_for (length bytes)) bytes)
        (sectors_for (length bytes)) old_image new_image
        → IsTornRun (journal_place geometry + used)
        (packed g (used + 1) (sectors_for (length bytes)) bytes)
        (sectors_for (length bytes)) old_image new_image
    torn_of_written old_image new_image crashed written =
        let n = sectors_for (length bytes) in
        let run = run_of old_image crashed in
        let is = old.is_disk_image old_image crashed in
        let full = is.full in
        record {
          count = written.count;
          below = written.below;
          above = written.above;
          each = λ i lt.
              let new = is_new geometry g used n (records_bytes v records) bytes old_image new_image
              run i lt in
              let long : length (sector_at (packed g (used + 1) n bytes) i) ≡ 512 =
              ap length (packed_at g (used + 1) n bytes i lt)
              ∙ length-journal_sector g (used + 1 + i) _ new.most in
              let old-long = full (journal_place geometry + used + i) (omega arith) in (
                512,
                omega arith,
                written.each i lt
                    ∙ sym (ap (λ l. l
                    ++ drop 512 (sector_at old_image (journal_place geometry + used + i)))
                    (take_all 512 (sector_at (packed g (used + 1) n bytes) i) (omega arith))
                    ∙ ap (λ l. sector_at (packed g (used + 1) n bytes) i
                    ++ l) (drop_all 512 (sector_at old_image (journal_place geometry + used
                    + i)) (omega arith))
                    ∙ append-nil (sector_at (packed g (used + 1) n bytes) i)),
              );
        }

    pub durable : (new : Medium)
        → Follows (IsWrittenRun (journal_place geometry + used)
        (packed g (used + 1) (sectors_for (length bytes)) bytes) (sectors_for (length bytes)))
        old.shows new.crash_images
        → (image : DiskImage) → new.crash_images image
        → HoldsRecords geometry v g (used + sectors_for (length bytes)) (records ++ kept) image
    durable new stored image crashed =
        let n = sectors_for (length bytes) in
        let was = stored image crashed in
        let written = was.2 in
        let before = shows_crashed old was.0 was.1 in
        let run = run_of was.0 before in
        let torn = torn_of_written was.0 image before written in
        let all = holds_all geometry g used n (records_bytes v records) bytes was.0 image run torn
        written.each in
        let clean = still_clean geometry g used n (records_bytes v records) bytes was.0 image run
        torn written.each in
        let spelled : records_bytes v records ++ bytes ≡ records_bytes v (records ++ kept) =
        ap (λ l. records_bytes v records ++ l) on.spells
        ∙ sym (flat_map-append (record_bytes v) records kept) in
        record {
          holds_bytes = subst (λ (l : List ℕ). HoldsBytes geometry g (used + n) l image) spelled
              all;
          clean = clean;
        }

-- the same of values that are these
pub any_moment_at : (geometry : Geometry) (v : Version) (g used : ℕ) (bytes : List ℕ)
    (records kept : List Record) (old new : Medium) (at h u : ℕ) (b : List ℕ)
    → at ≡ journal_place geometry → h ≡ g → u ≡ used
    → b ≡ bytes
    → IsOn geometry v g used bytes records kept old.crash_images
    → total_sectors geometry ≤ old.sectors → used + sectors_for (length bytes) ≤
    geometry.journal_sectors → geometry.journal_sectors < 2 ^ 32
    → LeavesOnly old new (After (IsTornRun (at + u) (packed h (u + 1) (sectors_for (length b)) b)
    (sectors_for (length b))) old.crash_images)
    → LeavesOnly old new (After (AppendsFront geometry v g used records kept) old.crash_images)
any_moment_at geometry v g used bytes records kept old new at h u b at-is h-is u-is b-is on size
    room bound leaves =
    let P : ℕ → ℕ → ℕ → List ℕ → Type 0 =
    λ at h u b. LeavesOnly old new
    (After (IsTornRun (at + u) (packed h (u + 1) (sectors_for (length b)) b)
    (sectors_for (length b))) old.crash_images) in
    let one = subst (λ (x : ℕ). P x h u b) at-is leaves in
    let two = subst (λ (x : ℕ). P (journal_place geometry) x u b) h-is one in
    let three = subst (λ (x : ℕ). P (journal_place geometry) g x b) u-is two in
    let four = subst (λ (x : List ℕ). P (journal_place geometry) g used x) b-is three in
    any_moment geometry v g used bytes records kept old on size room bound new four

pub durable_at : (geometry : Geometry) (v : Version) (g used : ℕ) (bytes : List ℕ)
    (records kept : List Record) (old new : Medium) (w : Version) (at h u n : ℕ) (b : List ℕ)
    → w ≡ v → at ≡ journal_place geometry → h ≡ g → u ≡ used
    → b ≡ bytes → n ≡ sectors_for (length bytes)
    → IsOn geometry v g used bytes records kept old.crash_images
    → total_sectors geometry ≤ old.sectors → used + sectors_for (length bytes) ≤
    geometry.journal_sectors → geometry.journal_sectors < 2 ^ 32
    → Follows (IsWrittenRun (at + u) (packed h (u + 1) (sectors_for (length b)) b)
    (sectors_for (length b))) old.shows new.crash_images
    → (image : DiskImage) → new.crash_images image
    → HoldsRecords geometry w h (u + n) (records ++ kept) image
durable_at geometry v g used bytes records kept old new w at h u n b w-is at-is h-is u-is b-is n-is
    on size room bound stored image crashed =
    let P : ℕ → ℕ → ℕ → List ℕ → Type 0 =
    λ at h u b. Follows (IsWrittenRun (at + u) (packed h (u + 1) (sectors_for (length b)) b)
    (sectors_for (length b))) old.shows new.crash_images in
    let one = subst (λ (x : ℕ). P x h u b) at-is stored in
    let two = subst (λ (x : ℕ). P (journal_place geometry) x u b) h-is one in
    let three = subst (λ (x : ℕ). P (journal_place geometry) g x b) u-is two in
    let four = subst (λ (x : List ℕ). P (journal_place geometry) g used x) b-is three in
    let five = durable geometry v g used bytes records kept old on size room bound new four image
    crashed in
    let six = subst (λ (x : ℕ). HoldsRecords geometry v x (used + sectors_for (length bytes))
    (records ++ kept) image) (sym h-is) five in
    let seven = subst (λ (x : ℕ). HoldsRecords geometry v h (x + sectors_for (length bytes))
    (records ++ kept) image) (sym u-is) six in
    let eight = subst (λ (x : ℕ). HoldsRecords geometry v h (u + x) (records
    ++ kept) image) (sym n-is) seven in
    subst (λ (x : Version). HoldsRecords geometry x h (u + n) (records ++ kept) image) (sym w-is)
    eight

-- where memory alone holds no record, the journal is as after a barrier
pub none_kept : (v : Version) (g used : ℕ) (kept : List ℕ) (has_failed : Bool) → length kept ≡ 0
    → has_failed ≡ false
    → state v g used kept has_failed ≡ state v g (used + sectors_for (length kept)) [] false
none_kept v g used [] has_failed none works =
    rw works (ap (λ (n : ℕ). state v g n [] false) (let e : used ≡ used + 0 = omega arith in e))
none_kept v g used (x ∷ kept) has_failed none works = absurd (omega arith)

-- there is room for what was counted
pub room_for : (used journal len counted : ℕ) → counted ≡ sectors_for len → (len ≡ 0 → ⊥)
    → counted ≤ journal - used → used + sectors_for len ≤ journal
room_for used journal len counted is some le = omega arith

-- time and room go on
pub goes : (old new : Medium) (P : DiskImage → Type 0) → LeavesOnly old new P
    → Passes old new (λ _. Unit {0})
goes old new P leaves = weaker old new P (λ _. Unit {0}) leaves.passes (λ image here. tt)

pub goes_not : (m : Medium) → Passes m m (λ _. Unit {0})
goes_not m = started m (λ _. Unit {0})
