-- Bytes that are given to a writer, and its last sector and head.
use Rattle.std.proofs.Common.{◌≡◌, ◌≢◌, ◌⊎◌, ℕ, ◌+◌, ◌-◌, ◌*◌, ◌^◌, ◌<◌, ◌≤◌, List, ◌++◌}
use Rattle.std.proofs.Common.{length, take, drop, sym, ap, ◌∙◌, subst, inl, inr, ⊎_elim, arith}
use Rattle.std.proofs.Common.{append_assoc, length-append}
use Rattle.std.proofs.Math.Seq.{take-append-add, take-append_seam}
use Rattle.std.proofs.lemmas.List.{length-set, length-take-le, length-drop}
use Rattle.std.specs.List.{AllByRecursion}
use Rattle.sha2.specs.Sha256.{sha256}
use Rattle.sha2.proofs.Facts256.{length-sha256}
use Rattle.guest_memory.specs.rules.Bytes.{IsByte, number_of, with_part}
use Rattle.wasi_abi.specs.rules.Layouts.{padding}
use Rattle.sector_disk.specs.rules.DiskImage.{DiskImage, sector_at, front_over, IsDiskImage, IsTorn}
use Rattle.sector_disk.specs.rules.DiskImage.{IsWritten}
use Rattle.sector_disk.specs.rules.Medium.{Medium, After, Follows, BothFollow, LeavesOnly}
use Rattle.sector_disk.specs.laws.Fronts.{sector-with_sector, sector-with_other}
use Rattle.sector_disk.proofs.Moments.{started, leaves_only, shows_follow, shows_crashed}
use Rattle.sector_disk.proofs.Moments.{leaves_weaker}
use Rattle.disk_layout.specs.declared.geometry.Geometry.{Geometry}
use Rattle.disk_layout.specs.declared.head.Head.{Head}
use Rattle.disk_layout.specs.rules.Places.{head_place, area_place, rounded_up}
use Rattle.disk_layout.specs.rules.Sectors.{bytes_from, head_bytes, stamp_of, stamp_bytes}
use Rattle.disk_layout.specs.rules.Sectors.{shown_generation, SectorsHold}
use Rattle.disk_layout.specs.laws.Laws.{HeadFits}
use Rattle.disk_layout.proofs.ReadLemmas.{bytes_from-more}
use Rattle.disk_layout.proofs.StampLemmas.{all_drop, shows_earlier, shows_there}
use Rattle.disk_layout.proofs.FieldLemmas.{head_again, drop_over}
use Rattle.snapshot.specs.rules.Steps.{IsOutsideArea, HoldsWithZeros, Fills, Commits, Replaces}
use Rattle.snapshot.proofs.AreaLemmas.{bytes_same, fills, fills_none, fills_then, fills_commits}
use Rattle.snapshot.proofs.AreaLemmas.{then_commits, then_replaces}
use Rattle.snapshot.proofs.HeadLemmas.{new_head, old_head, shown_within}
use Rattle.snapshot.proofs.ReadLemmas.{front_of_more}
use Rattle.snapshot.proofs.ByteLemmas.{all_digest, all_head, length-head}
use Rattle.snapshot.proofs.StoreLemmas.{leaves_then, leaves_now}

-- ---- the area alone

pub torn_fills : (geometry : Geometry) (g k : ℕ) (bytes : List ℕ) (old new : DiskImage)
    → area_place geometry g ≤ k → k < area_place geometry g + geometry.area_sectors
    → IsTorn k bytes old new → Fills geometry g old new
torn_fills geometry g k bytes old new from below torn =
    let apart : (n : ℕ) → IsOutsideArea geometry g n → n ≢ k =
    λ n out e. ⊎_elim (λ (lt : n < area_place geometry g). omega (
      arith,
      lt,
      e,
      from,
    )) (λ (ge : area_place geometry g + geometry.area_sectors ≤ n). omega (
      arith,
      ge,
      e,
      below,
    )) out in
    fills geometry g old new
    (ap (λ (i : DiskImage). length i) torn.is ∙ length-set old k _)
    (λ n out. ap (λ (i : DiskImage). sector_at i n) torn.is
    ∙ sector-with_other old n k _ (apart n out))

pub store_fills : (geometry : Geometry) (g k : ℕ) (bytes : List ℕ) (old new : Medium)
    → area_place geometry g ≤ k → k < area_place geometry g + geometry.area_sectors
    → LeavesOnly old new (After (IsTorn k bytes) old.crash_images)
    → LeavesOnly old new (After (Fills geometry g) old.crash_images)
store_fills geometry g k bytes old new from below one =
    leaves_weaker old new (After (IsTorn k bytes) old.crash_images)
    (After (Fills geometry g) old.crash_images) one (λ image a. (
      a.0,
      a.1,
      torn_fills geometry g k bytes a.0 image from below a.2,
    ))

pub none_fills : (geometry : Geometry) (g : ℕ) (m : Medium)
    → LeavesOnly m m (After (Fills geometry g) m.crash_images)
none_fills geometry g m =
    leaves_only m m (After (Fills geometry g) m.crash_images)
    (started m (After (Fills geometry g) m.crash_images)) (λ image crashed. (
      image,
      crashed,
      fills_none geometry g image,
    ))

pub more_fills : (geometry : Geometry) (g : ℕ) (old mid new : Medium)
    → LeavesOnly old mid (After (Fills geometry g) old.crash_images)
    → LeavesOnly mid new (After (Fills geometry g) mid.crash_images)
    → LeavesOnly old new (After (Fills geometry g) old.crash_images)
more_fills geometry g old mid new one two =
    leaves_then old mid new (After (Fills geometry g) old.crash_images)
    (After (Fills geometry g) mid.crash_images) (After (Fills geometry g) old.crash_images) one two
    (λ image a. a)
    (λ image a. let b = leaves_now old mid (After (Fills geometry g) old.crash_images)
    one a.0 a.1 in (b.0, b.1, fills_then geometry g b.0 a.0 image b.2 a.2))
    (λ image crashed. (image, crashed, fills_none geometry g image))

-- ---- bytes that are given

-- a sector's front with bytes put after it
pub put_behind : (filled : ℕ) (sector chunk : List ℕ) → filled + length chunk ≤ length sector
    → take (filled + length chunk) (with_part sector filled chunk) ≡ take filled sector ++ chunk
put_behind filled sector chunk room =
    let front : length (take filled sector) ≡ filled =
    length-take-le filled sector (omega (arith, room)) in
    let rest = drop (filled + length chunk) sector in
    ap (λ (n : ℕ). take (n + length chunk) (take filled sector ++ (chunk ++ rest))) (sym front)
    ∙ take-append-add (take filled sector) (chunk ++ rest) (length chunk)
    ∙ ap (λ (l : List ℕ). take filled sector ++ l) (take-append_seam chunk rest)

pub length-put : (filled : ℕ) (sector chunk : List ℕ) → filled + length chunk ≤ length sector
    → length (with_part sector filled chunk) ≡ length sector
length-put filled sector chunk room =
    length-append (take filled sector) (chunk ++ drop (filled + length chunk) sector)
    ∙ omega (
      arith,
      length-take-le filled sector (let r : filled ≤ length sector = omega (
        arith,
        room,
      ) in r),
      length-append chunk (drop (filled + length chunk) sector),
      length-drop (filled + length chunk) sector,
    )

-- the sector has room for them
pub given_more : (area : List ℕ) (filled : ℕ) (sector chunk before : List ℕ)
    → filled + length chunk ≤ length sector → area ++ take filled sector ≡ before
    → area ++ take (filled + length chunk) (with_part sector filled chunk) ≡ before ++ chunk
given_more area filled sector chunk before room is =
    ap (λ (l : List ℕ). area ++ l) (put_behind filled sector chunk room)
    ∙ sym (append_assoc area (take filled sector) chunk) ∙ ap (λ (l : List ℕ). l ++ chunk) is

-- a sector that was stored after those of the area
pub stored_more : (place n : ℕ) (front chunk stored before : List ℕ) (old new : Medium)
    → place + n < old.sectors → stored ≡ front ++ chunk
    → BothFollow (IsWritten (place + n) stored) (IsTorn (place + n) stored) old new
    → ((image : DiskImage) → old.shows image → bytes_from image place n ++ front ≡ before)
    → (image : DiskImage) → new.shows image → bytes_from image place (n + 1) ≡ before ++ chunk
stored_more place n front chunk stored before old new inside is whole held image shows =
    let was = shows_follow old new _ _ whole image shows in
    let full = old.is_disk_image was.0 (shows_crashed old was.0 was.1) in
    let long : place + n < length was.0 = omega (arith, full.count, inside) in
    let others =
    bytes_same was.0 image place n (λ k from below. ap (λ (i : DiskImage). sector_at i k) was.2
    ∙ sector-with_other was.0 k (place + n) stored (λ (e : k ≡ place + n). omega (
      arith,
      e,
      below,
    ))) in
    let here : sector_at image (place + n) ≡ front ++ chunk =
    ap (λ (i : DiskImage). sector_at i (place + n)) was.2
    ∙ sector-with_sector was.0 (place + n) stored long ∙ is in
    bytes_from-more image place n
    ∙ ap (λ (l : List ℕ). l ++ sector_at image (place + n)) others
    ∙ ap (λ (l : List ℕ). bytes_from was.0 place n ++ l) here
    ∙ sym (append_assoc (bytes_from was.0 place n) front chunk)
    ∙ ap (λ (l : List ℕ). l ++ chunk) (held was.0 was.1)

-- the image's bytes are the front of the area, whatever is after them
pub area_holds : (image : DiskImage) (place n count : ℕ) (bytes rest : List ℕ) → n ≤ count
    → bytes_from image place n ≡ bytes ++ rest → SectorsHold image place count bytes
area_holds image place n count bytes rest le is =
    let long : length bytes ≤ length (bytes_from image place n) =
    let e = ap (λ (l : List ℕ). length l) is ∙ length-append bytes rest in omega (arith, e) in
    sym (front_of_more image place n count (length bytes) le long)
    ∙ ap (λ (l : List ℕ). take (length bytes) l) is ∙ take-append_seam bytes rest

-- the same with zeros up to the end of the last sector
pub zeros_held : (image : DiskImage) (place n z : ℕ) (bytes : List ℕ) → n
    ≡ rounded_up (length bytes) → z ≡ 512 * n - length bytes → bytes_from image place n
    ≡ bytes ++ padding z → bytes_from image place (rounded_up (length bytes)) ≡ bytes
    ++ padding (512 * rounded_up (length bytes) - length bytes)
zeros_held image place n z bytes n-is z-is is =
    ap (λ (k : ℕ). bytes_from image place k) (sym n-is) ∙ is
    ∙ ap (λ (k : ℕ). bytes ++ padding k) (z-is ∙ ap (λ (k : ℕ). 512 * k - length bytes) n-is)

-- ---- a head

pub record IsHead (h : Head) : Type 0 where
  pub fits : HeadFits h
  pub bytes : AllByRecursion IsByte (head_bytes h)
  pub full : length (head_bytes h) ≡ 512

pub is_head : (h : Head) (bytes : List ℕ) → h.digest ≡ sha256 bytes → (h.version < 2 ^ 32)
    × (h.length_in_bytes < 2 ^ 64) × (h.generation < 2 ^ 64) → IsHead h
is_head h bytes digest small =
    let long : length h.digest ≡ 32 = ap (λ (l : List ℕ). length l) digest ∙ length-sha256 bytes in
    record {
      fits = record { version = small.0; len = small.1; digest = long; generation = small.2 };
      bytes = all_head h (subst (λ (l : List ℕ). AllByRecursion IsByte l) (sym digest)
          (all_digest bytes));
      full = length-head h long;
    }

pub head_placed : (h : Head) → IsHead h → (stamp_of (head_bytes h)).place ≡ 1
head_placed h is =
    let f = is.fits in
    let rest = padding 440 ++ stamp_bytes (record { generation = h.generation; place = 1 }) in
    let at : drop 504 (head_bytes h) ≡ drop 8 (stamp_bytes (record {
      generation = h.generation;
      place = 1;
    })) = drop_over h.digest rest 32 448 f.digest in
    ap (λ (l : List ℕ). number_of (take 8 l)) at

pub head_shows : (h : Head) → IsHead h → shown_generation 1 (head_bytes h) ≡ h.generation
head_shows h is =
    shows_there 1 (stamp_of (head_bytes h)).place (stamp_of (head_bytes h)).generation
    (head_placed h is) ∙ ap (λ (k : Head). k.generation) (head_again h is.fits)

module _ (geometry : Geometry) (h : Head) (bytes : List ℕ) (is : IsHead h) (len : h.length_in_bytes
    ≡ length bytes) (digest : h.digest ≡ sha256 bytes) (few : rounded_up (length bytes)
    ≤ geometry.area_sectors) where
  is-whole : h ≡ record {
    version = h.version;
    length_in_bytes = length bytes;
    digest = sha256 bytes;
    generation = h.generation;
  }
  is-whole = λ j. record {
    version = h.version;
    length_in_bytes = len j;
    digest = digest j;
    generation = h.generation;
  }

  module _ (x y : DiskImage) (sectors : ℕ) (image : IsDiskImage sectors x) (inside : 3
      ≤ sectors) (zeros : HoldsWithZeros geometry h.generation bytes x) where
    area : SectorsHold x (area_place geometry h.generation) geometry.area_sectors bytes
    area = area_holds x (area_place geometry h.generation)
        (rounded_up (length bytes)) geometry.area_sectors bytes
        (padding (512 * rounded_up (length bytes) - length bytes)) few zeros

    in_disk_image : head_place h.generation < length x
    in_disk_image = let c = image.count in omega (arith, c, inside)

    full_head : length (sector_at x (head_place h.generation)) ≡ 512
    full_head = image.full (head_place h.generation) (omega (arith, inside))

    pub torn_commits : IsTorn (head_place h.generation) (head_bytes h) x y
        → Commits geometry h.generation h.version bytes x y
    torn_commits torn =
        let others : (k : ℕ) → k ≢ head_place h.generation → sector_at y k ≡ sector_at x k =
        λ k ne. ap (λ (i : DiskImage). sector_at i k) torn.is
        ∙ sector-with_other x k (head_place h.generation) _ ne in
        let here : sector_at y (head_place h.generation)
        ≡ front_over torn.front (head_bytes h) (sector_at x (head_place h.generation)) =
        ap (λ (i : DiskImage). sector_at i (head_place h.generation)) torn.is
        ∙ sector-with_sector x (head_place h.generation) _ in_disk_image in
        record {
          count = ap (λ (i : DiskImage). length i) torn.is ∙ length-set x
              (head_place h.generation) _;
          others = λ k out ne. others k ne;
          newest = λ ready.
              let later : shown_generation 1 (sector_at x (head_place h.generation))
              < h.generation = let w = shown_within x h.generation in
              omega (arith, w, ready.none_later) in
              let two = shows_earlier 1 h.generation (sector_at x (head_place h.generation))
              (head_bytes h) torn.front (record {
                full = full_head;
                new_full = is.full;
                bytes = all_drop 496 (head_bytes h) is.bytes;
                stamped = head_placed h is;
                generation = ap (λ (k : Head). k.generation) (head_again h is.fits);
                later = later;
                within = torn.within;
              }) in
              ⊎_elim
              (λ less. inl (old_head geometry h.generation h.version bytes x y ready others area
              (let e = ap (λ (s : List ℕ). shown_generation 1 s) here in
              omega (arith, e, less))))
              (λ new. inr (new_head geometry h.generation h.version bytes x y ready others area h
              is.fits is-whole zeros (record {
                shows = ap (λ (s : List ℕ). shown_generation 1 s) here ∙ new.0;
                first = ap (λ (s : List ℕ). take 496 s) here ∙ new.1;
              })))
              two;
        }

    pub whole_replaces : IsWritten (head_place h.generation) (head_bytes h) x y
        → Replaces geometry h.generation h.version bytes x y
    whole_replaces written =
        let others : (k : ℕ) → k ≢ head_place h.generation → sector_at y k ≡ sector_at x k =
        λ k ne. ap (λ (i : DiskImage). sector_at i k) written
        ∙ sector-with_other x k (head_place h.generation) _ ne in
        let here : sector_at y (head_place h.generation) ≡ head_bytes h =
        ap (λ (i : DiskImage). sector_at i (head_place h.generation)) written
        ∙ sector-with_sector x (head_place h.generation) _ in_disk_image in
        record {
          count = ap (λ (i : DiskImage). length i) written ∙ length-set x
              (head_place h.generation) _;
          others = λ k out ne. others k ne;
          newest = λ ready.
              new_head geometry h.generation h.version bytes x y ready others area h is.fits
              is-whole zeros (record {
                shows = ap (λ (s : List ℕ). shown_generation 1 s) here ∙ head_shows h is;
                first = ap (λ (s : List ℕ). take 496 s) here;
              });
        }

  -- ---- a head behind a durable area

  module _ (old mid new : Medium) (inside : 3
      ≤ mid.sectors) (one : LeavesOnly old mid (After (Fills geometry h.generation)
      old.crash_images)) (holds : (image : DiskImage) → mid.shows image
      → HoldsWithZeros geometry h.generation bytes image) where
    fills_crashed : (image : DiskImage) → old.crash_images image
        → After (Commits geometry h.generation h.version bytes) old.crash_images image
    fills_crashed image crashed = (
      image,
      crashed,
      fills_commits geometry h.generation h.version bytes image image
          (fills_none geometry h.generation image),
    )

    filled_commits : (image : DiskImage) → After (Fills geometry h.generation)
        old.crash_images image → After (Commits geometry h.generation h.version bytes)
        old.crash_images image
    filled_commits image a =
        (a.0, a.1, fills_commits geometry h.generation h.version bytes a.0 image a.2)

    pub finished : LeavesOnly mid new (λ image. mid.crash_images image
        ⊎ After (IsTorn (head_place h.generation) (head_bytes h)) mid.shows image)
        → LeavesOnly old new (After (Commits geometry h.generation h.version bytes)
        old.crash_images)
    finished two =
        leaves_then old mid new (After (Fills geometry h.generation) old.crash_images) (λ image.
        mid.crash_images image
        ⊎ After (IsTorn (head_place h.generation) (head_bytes h)) mid.shows image)
        (After (Commits geometry h.generation h.version bytes) old.crash_images) one two
        filled_commits (λ image q.
        ⊎_elim
        (λ crashed. filled_commits image
        (leaves_now old mid (After (Fills geometry h.generation) old.crash_images) one
        image crashed)) (λ a.
        let crashed = shows_crashed mid a.0 a.1 in
        let b = leaves_now old mid (After (Fills geometry h.generation) old.crash_images)
        one a.0 crashed
        in (
          b.0,
          b.1,
          then_commits geometry h.generation h.version bytes b.0 a.0 image b.2
              (torn_commits a.0 image mid.sectors (mid.is_disk_image a.0 crashed) inside
              (holds a.0 a.1) a.2),
        ))
        q)
        fills_crashed

    pub replaced : Follows (IsWritten (head_place h.generation) (head_bytes h)) mid.shows
        new.crash_images
        → Follows (Replaces geometry h.generation h.version bytes) old.crash_images new.crash_images
    replaced written = λ image crashed.
        let a = written image crashed in
        let was = shows_crashed mid a.0 a.1 in
        let b = leaves_now old mid (After (Fills geometry h.generation)
        old.crash_images) one a.0 was
        in (
          b.0,
          b.1,
          then_replaces geometry h.generation h.version bytes b.0 a.0 image b.2
              (whole_replaces a.0 image mid.sectors (mid.is_disk_image a.0 was) inside
              (holds a.0 a.1) a.2),
        )
