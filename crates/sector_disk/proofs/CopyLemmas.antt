-- Sectors that are read from one disk and written to another: one sector on.
use Rattle.std.proofs.Common.{◌≡◌, ◌∙◌, ◌⊎◌, refl, sym, ap, subst, ℕ, ◌+◌, ◌-◌, ◌<◌, ◌≤◌, List}
use Rattle.std.proofs.Common.{[], ◌++◌, length, take, drop, Err, Result, ⊎_elim, inl, inr, arith}
use Rattle.std.proofs.lemmas.List.{get_or-drop, get_or-take, ext_get_or, take_all, drop_all}
use Rattle.std.proofs.lemmas.List.{append-nil, length-replicate, length-take-le}
use Rattle.std.proofs.lemmas.Bool.{cases_lt}
use Rattle.sector_disk.specs.rules.DiskImage.{DiskImage, IsDiskImage, sector_at, front_over}
use Rattle.sector_disk.specs.rules.Medium.{Medium, After, BothFollow, Holds, HasCause, IsAllSynced}
use Rattle.sector_disk.specs.rules.Medium.{LeavesOnly, Passes, Reads, Stays, TakesWrite, Tears}
use Rattle.sector_disk.specs.rules.Run.{IsTornRun, IsWrittenRun}
use Rattle.sector_disk.specs.rules.Copying.{HasFrontOnly, WasOnlyRead, IsOwnFault, sector_of_zeros}
use Rattle.sector_disk.specs.declared.fault.DiskFault.{DiskFault}
use Rattle.sector_disk.specs.declared.sector.TheConstants.{SECTOR_SIZE}
use Rattle.sector_disk.proofs.Moments.{started, goes_on, leaves_only, stays_on, stays_passes}
use Rattle.sector_disk.proofs.Moments.{stays_crashed, stays_shows, shows_crashed, shows_follow}
use Rattle.sector_disk.proofs.Moments.{synced_only}
use Rattle.sector_disk.proofs.CountLemmas.{counts_same, counts_then}
use Rattle.sector_disk.proofs.RunLemmas.{both_tear, both_take}

-- ---- the original

-- what it shows is an image
pub image_shown : (m : Medium) (shown : DiskImage) → m.shows shown → IsDiskImage m.sectors shown
image_shown m shown shows = m.is_disk_image shown (shows_crashed m shown shows)

-- before the first read
pub none_read : (m : Medium) → WasOnlyRead 0 m m
none_read m = record {
  stays = record {
    crash_pairs = λ shown image both. both;
    since = λ t shown image le both. both;
    unsynced = omega arith;
  };
  leaves = leaves_only m m m.crash_images (started m m.crash_images) (λ image crashed. crashed);
  unsynced = refl;
  counts = counts_same m m.unsynced;
  calls = refl;
  counted = omega arith;
}

-- a read, well or not, after so many sectors
pub one_read : {T : Type 0} (n k : ℕ) (into : List ℕ) (result : Result T DiskFault)
    (old mid new : Medium) → WasOnlyRead n old mid → Reads k into result mid new
    → WasOnlyRead (n + 1) old new
one_read n k into result old mid new so_far read =
    let before = so_far.leaves in
    let earlier = before.passes in
    let same = so_far.unsynced in
    let passes = goes_on old mid new old.crash_images mid.crash_images earlier
    (stays_passes mid new read.stays read.passes) (stays_crashed old mid so_far.stays) in
    record {
      stays = stays_on old mid new earlier.later so_far.stays read.stays;
      leaves = leaves_only old new old.crash_images passes (λ image crashed. crashed);
      unsynced = read.unsynced ∙ so_far.unsynced;
      counts = counts_then old.unsynced mid.unsynced old.unsynced old mid new (omega arith)
          (omega arith) earlier.later so_far.counts read.counts;
      calls = read.calls ∙ so_far.calls;
      counted = omega (arith, so_far.counted, read.counted);
    }

-- of more sectors, of which the rest wasn't read
pub more_read : (n m : ℕ) (old new : Medium) → n ≤ m → WasOnlyRead n old new → WasOnlyRead m old new
more_read n m old new le read = record {
  stays = read.stays;
  leaves = read.leaves;
  unsynced = read.unsynced;
  counts = read.counts;
  calls = read.calls;
  counted = let counted = read.counted in omega arith;
}

-- a call within a disk's sectors fails with a fault of the disk itself
pub own_fault : {T : Type 0} (e : DiskFault) (is_out is_full : Type 0) (old new : Medium)
    → HasCause {T = T} is_out is_full (Err e) old new → (is_out → ⊥) → IsOwnFault e
own_fault {T} e is_out is_full old new cause inside =
    let P : DiskFault → Result T DiskFault = λ (x : DiskFault). Err x in
    (λ is. inside (cause.range (ap P is)), λ is. cause.no_memory (ap P is))

-- ---- the copy

-- the sector that comes next
pub sector_behind : (at n : ℕ) (shown : DiskImage)
    → sector_at (drop at shown) n ≡ sector_at shown (at + n)
sector_behind at n shown = get_or-drop at shown n []

-- A sector of the original, so far behind the first one, is written to the copy.
module _ (at n k : ℕ) (bytes : List ℕ) (place : k ≡ at + n) (original : Medium)
    (old mid new : Medium) (holds : Holds original k bytes) (within : k < mid.sectors)
    (shown : DiskImage) (shows : original.shows shown) where
  next_bytes : bytes ≡ sector_at (drop at shown) n
  next_bytes = sym (holds shown shows) ∙ ap (λ (j : ℕ). sector_at shown j) place
      ∙ sym (sector_behind at n shown)

  pub torn_next : BothFollow (IsTornRun at (drop at shown) n) (IsTornRun at (drop at shown) n)
      old mid → Tears k bytes mid new
      → BothFollow (IsTornRun at (drop at shown) (n + 1)) (IsTornRun at (drop at shown) (n + 1))
      old new
  torn_next so_far tears = both_tear at (drop at shown) n old mid new (omega (arith, place))
      so_far (subst (λ (l : List ℕ). Tears (at + n) l mid new) next_bytes
      (subst (λ (j : ℕ). Tears j bytes mid new) place tears))

  pub written_next : BothFollow (IsWrittenRun at (drop at shown) n)
      (IsTornRun at (drop at shown) n) old mid → TakesWrite k bytes mid new
      → BothFollow (IsWrittenRun at (drop at shown) (n + 1)) (IsTornRun at (drop at shown) (n + 1))
      old new
  written_next so_far takes = both_take at (drop at shown) n old mid new (omega (arith, place))
      so_far (subst (λ (l : List ℕ). TakesWrite (at + n) l mid new) next_bytes
      (subst (λ (j : ℕ). TakesWrite j bytes mid new) place takes))

-- ---- all of it

-- four steps leave the sectors as many as they were
pub sectors_same : (a b c d e : Medium) (P Q R S : DiskImage → Type 0) → Passes a b P → Passes b c Q
    → Passes c d R → Passes d e S → e.sectors ≡ a.sectors
sectors_same a b c d e P Q R S one two three four =
    four.sectors ∙ three.sectors ∙ two.sectors ∙ one.sectors

-- what was left before a step, and what was left in it
pub leaves_then : (old mid new : Medium) (P : DiskImage → Type 0) → LeavesOnly old mid P
    → LeavesOnly mid new P → LeavesOnly old new P
leaves_then old mid new P one two =
    let before = one.passes in
    record {
      each = λ image since. ⊎_elim (λ past. one.each image past) (λ now. now)
          (two.passes.nothing_else old.moment image before.later since);
      passes = goes_on old mid new P P before two.passes (λ image here. here);
    }

-- an image with the first sectors of the original
whole_copy : (count : ℕ) (shown image : DiskImage) → length image ≡ count → count ≤ length shown
    → ((k : ℕ) → k < count → sector_at image k ≡ sector_at shown k) → image ≡ take count shown
whole_copy count shown image long enough each =
    ext_get_or [] image (take count shown) (long ∙ sym (length-take-le count shown enough))
    (λ k lt. each k (omega (arith, lt, long))
    ∙ sym (get_or-take count shown k [] (omega (arith, lt, long))))

-- the image has all sectors of the original but the first
pub record HasRest (count : ℕ) (shown image : DiskImage) : Type 0 where
  pub rest : (k : ℕ) → 1 ≤ k → k < count → sector_at image k ≡ sector_at shown k
  pub long : length image ≡ count

-- The first run and a sync, then the first sector. The copy has `count` sectors.
module _ (count : ℕ) (shown : DiskImage) (old : Medium) (some : 1 ≤ count)
    (is_count : old.sectors ≡ count) where
  -- after a good sync of the others
  module _ (mid : Medium) (both : BothFollow (IsWrittenRun 1 (drop 1 shown) (count - 1))
      (IsTornRun 1 (drop 1 shown) (count - 1)) old mid) (new : Medium) (stays : Stays mid new)
      (synced : IsAllSynced new) (image : DiskImage) (crashed : new.crash_images image) where
    run_there : (was : DiskImage) × old.shows was
        × IsWrittenRun 1 (drop 1 shown) (count - 1) was image
    run_there = shows_follow old mid _ _ both image
        (stays_shows mid new stays image (synced_only new synced image crashed))

    pub rest_there : HasRest count shown image
    rest_there =
        let was = run_there in
        let run = was.2 in
        let before = shows_crashed old was.0 was.1 in
        record {
          rest = λ k least lt.
              let e : 1 + (k - 1) ≡ k = omega arith in
              let P : ℕ → Type 0 = λ j. sector_at image j ≡ sector_at shown j in
              subst P e (run.each (k - 1) (omega arith) ∙ sector_behind 1 (k - 1) shown);
          long = run.count ∙ (let is = old.is_disk_image was.0 before in is.count) ∙ is_count;
        }

    pub zero_there : ((before : DiskImage) → old.crash_images before
        → sector_at before 0 ≡ sector_of_zeros) → sector_at image 0 ≡ sector_of_zeros
    zero_there zero_first =
        let was = run_there in
        let run = was.2 in
        run.below 0 (omega arith) ∙ zero_first was.0 (shows_crashed old was.0 was.1)

-- the same of an original that has enough sectors
module _ (count : ℕ) (shown : DiskImage) (old : Medium) (some : 1 ≤ count)
    (is_count : old.sectors ≡ count) (enough : count ≤ length shown)
    (full : length (sector_at shown 0) ≡ SECTOR_SIZE) where
  abbrev pub Left : DiskImage → Type 0
  Left image = HasFrontOnly shown image ⊎ (image ≡ take old.sectors shown)

  -- before the first sector is written
  pub left_before : ((before : DiskImage) → old.crash_images before
      → sector_at before 0 ≡ sector_of_zeros) → (image : DiskImage)
      → After (IsTornRun 1 (drop 1 shown) (count - 1)) old.crash_images image → Left image
  left_before zero_first image after = inl (record {
    front = 0;
    less = omega arith;
    is = (let run = after.2 in run.below 0 (omega arith)) ∙ zero_first after.0 after.1;
  })

  -- while the first sector is written
  pub left_then : (mid : Medium) → ((image : DiskImage) → mid.crash_images image
      → HasRest count shown image) → ((image : DiskImage) → mid.crash_images image
      → sector_at image 0 ≡ sector_of_zeros) → (image : DiskImage)
      → After (IsTornRun 0 (drop 0 shown) 1) mid.crash_images image → Left image
  left_then mid has zero image after =
      let run = after.2 in
      let had = has after.0 after.1 in
      let torn = run.each 0 (omega arith) in
      let is : sector_at image 0 ≡ front_over torn.0 (sector_at shown 0) sector_of_zeros =
      torn.2 ∙ ap (λ (l : List ℕ). front_over torn.0 (sector_at shown 0) l)
      (zero after.0 after.1) in
      ⊎_elim
      (λ (part : torn.0 < SECTOR_SIZE). (let left : Left image =
      inl (record { front = torn.0; less = part; is = is }) in left))
      (λ (all : SECTOR_SIZE ≤ torn.0).
      let first : sector_at image 0 ≡ sector_at shown 0 =
      is ∙ ap (λ (l : List ℕ). l ++ drop torn.0 sector_of_zeros)
      (take_all torn.0 (sector_at shown 0) (omega (arith, full)))
      ∙ ap (λ (l : List ℕ). sector_at shown 0 ++ l)
      (drop_all torn.0 sector_of_zeros (omega (arith, long_zeros)))
      ∙ append-nil (sector_at shown 0) in
      inr (whole_copy count shown image (run.count ∙ had.long) enough (λ k lt.
      ⊎_elim (λ (none : k < 1). (let e : 0 ≡ k = omega arith in
      let P : ℕ → Type 0 = λ j. sector_at image j ≡ sector_at shown j in subst P e first))
      (λ (more : 1 ≤ k). run.above k (omega arith) ∙ had.rest k more lt)
      (cases_lt k 1)) ∙ ap (λ n. take n shown) (sym is_count)))
      (cases_lt torn.0 SECTOR_SIZE)
    where
      long_zeros : length sector_of_zeros ≡ SECTOR_SIZE
      long_zeros = length-replicate {A = ℕ} SECTOR_SIZE 0

  -- after all of it
  pub whole_there : (mid : Medium) → ((image : DiskImage) → mid.crash_images image
      → HasRest count shown image) → (new : Medium) → BothFollow (IsWrittenRun 0 (drop 0 shown) 1)
      (IsTornRun 0 (drop 0 shown) 1) mid new → (last : Medium) → Stays new last
      → IsAllSynced last → (image : DiskImage) → last.crash_images image
      → image ≡ take count shown
  whole_there mid has new both last stays synced image crashed =
      let shows = stays_shows new last stays image (synced_only last synced image crashed) in
      let was = shows_follow mid new _ _ both image shows in
      let run = was.2 in
      let had = has was.0 (shows_crashed mid was.0 was.1) in
      let first : sector_at image 0 ≡ sector_at shown 0 = run.each 0 (omega arith) in
      whole_copy count shown image (run.count ∙ had.long) enough (λ k lt.
      ⊎_elim (λ (none : k < 1). (let e : 0 ≡ k = omega arith in
      let P : ℕ → Type 0 = λ j. sector_at image j ≡ sector_at shown j in subst P e first))
      (λ (more : 1 ≤ k). run.above k (omega arith) ∙ had.rest k more lt)
      (cases_lt k 1))
