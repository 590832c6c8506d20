-- Laws of writes that no sync has made durable.
use Rattle.std.specs.Prelude.{◌≡◌, ◌⊎◌, ◌<◌, ◌≤◌, ◌≢◌, ◌+◌, ℕ, min, List, [], ◌∷◌, ◌++◌, length}
use Rattle.std.specs.Prelude.{drop, All, Vec, refl}
use Rattle.std.specs.declared.alloc.Global.{Global}
use Rattle.std.proofs.Common.{get_or, sym, inl, inr, ⊎_elim, ap, subst, ◌∙◌, arith}
use Rattle.std.proofs.lemmas.List.{drop-drop, drop_more, length-set}
use Rattle.std.proofs.lemmas.List.Elements.{All-head, All-tail, All-nil, All-cons}
use Rattle.std.proofs.lemmas.Bool.{cases_eq}
use Rattle.sector_disk.specs.rules.DiskImage.{DiskImage, sector_at, with_sector, with_front}
use Rattle.sector_disk.specs.rules.DiskImage.{IsDiskImage, IsTorn}
use Rattle.sector_disk.specs.laws.Fronts.{merged, with_front_twice, with_front_comm}
use Rattle.sector_disk.specs.laws.Fronts.{with_front_self, sector-with_sector, sector-with_other}
use Rattle.sector_disk.specs.laws.Fronts.{disk_image-with_sector, disk_image-with_front}
use Rattle.sector_disk.specs.laws.Fronts.{whole-with_front}
use Rattle.sector_disk.specs.rules.Pending.{IsWriteWithin, Leaves, replayed, first_front, torn_by}
use Rattle.sector_disk.specs.rules.Pending.{HadCrashImage}
use Rattle.sector_disk.specs.declared.write.Write.{Write}

first_fits : (n : ℕ) (write : Write) (writes : List Write) → All (IsWriteWithin n) (write ∷ writes)
    → IsWriteWithin n write
first_fits n write writes all = All-head (IsWriteWithin n) write writes all

rest_fit : (n : ℕ) (write : Write) (writes : List Write) → All (IsWriteWithin n) (write ∷ writes)
    → All (IsWriteWithin n) writes
rest_fit n write writes all = All-tail (IsWriteWithin n) write writes all

-- writes leave images, and their whole is an image
pub disk_image-replayed : (n : ℕ) (writes : List Write) (from : DiskImage) → IsDiskImage n from
    → All (IsWriteWithin n) writes → IsDiskImage n (replayed writes from)
disk_image-replayed n [] from is all = is
disk_image-replayed n (write ∷ writes) from is all =
    disk_image-replayed n writes _ (disk_image-with_sector n from write.sector write.bytes is (λ lt.
    (first_fits n write writes all).full)) (rest_fit n write writes all)

pub disk_image-crashed : (n : ℕ) (writes : List Write) (from image : DiskImage) → IsDiskImage n from
    → All (IsWriteWithin n) writes → Leaves writes from image → IsDiskImage n image
disk_image-crashed n [] from image is all crashed = rw crashed is
disk_image-crashed n (write ∷ writes) from image is all crashed =
    disk_image-crashed n writes _ image (disk_image-with_front n from write.sector crashed.0
    write.bytes is crashed.1 (λ lt. (first_fits n write writes all).full))
    (rest_fit n write writes all) crashed.2

-- one more write
pub crashed_more : (writes : List Write) (write : Write) (from image : DiskImage)
    → Leaves (writes ++ write ∷ []) from image → (before : DiskImage) × Leaves writes from before
    × IsTorn write.sector write.bytes before image
crashed_more [] write from image crashed =
    (from, refl, record { front = crashed.0; within = crashed.1; is = crashed.2 })
crashed_more (first ∷ writes) write from image crashed =
    let rest = crashed_more writes write (with_front from first.sector crashed.0 first.bytes)
    image crashed.2 in
    (rest.0, (crashed.0, crashed.1, rest.1), rest.2)

pub replayed_more : (writes : List Write) (write : Write) (from : DiskImage)
    → replayed (writes ++ write ∷ []) from
    ≡ with_sector (replayed writes from) write.sector write.bytes
replayed_more [] write from = refl
replayed_more (first ∷ writes) write from =
    replayed_more writes write (with_sector from first.sector first.bytes)

-- a cut may leave all that was written
pub whole_crashed : (n : ℕ) (writes : List Write) (from : DiskImage) → IsDiskImage n from
    → All (IsWriteWithin n) writes → Leaves writes from (replayed writes from)
whole_crashed n [] from is all = refl
whole_crashed n (write ∷ writes) from is all =
    let next = whole_crashed n writes (with_sector from write.sector write.bytes)
    (disk_image-with_sector n from write.sector write.bytes is (λ lt.
    (first_fits n write writes all).full)) (rest_fit n write writes all) in (
      512,
      omega arith,
      subst (λ (start : DiskImage).
          Leaves writes start (replayed writes (with_sector from write.sector write.bytes)))
          (sym (whole-with_front n from write.sector write.bytes is
          (first_fits n write writes all).within (first_fits n write writes all).full)) next,
    )

-- where no front is named, a cut leaves each write whole
pub whole_by_none : (n : ℕ) (writes : List Write) (from : DiskImage) → IsDiskImage n from
    → All (IsWriteWithin n) writes → torn_by [] writes from ≡ replayed writes from
whole_by_none n [] from is all = refl
whole_by_none n (write ∷ writes) from is all =
    let fits = first_fits n write writes all in
    ap (λ (start : DiskImage). torn_by [] writes start)
    (whole-with_front n from write.sector write.bytes is fits.within fits.full)
    ∙ whole_by_none n writes (with_sector from write.sector write.bytes)
    (disk_image-with_sector n from write.sector write.bytes is (λ lt. fits.full))
    (rest_fit n write writes all)

-- what a cut leaves may keep more of what reads give, in any sector
same_sector : (n : ℕ) (a b : DiskImage) (k f g : ℕ) (bytes : List ℕ) → length a ≡ n
    → IsDiskImage n b → k < n → f ≤ 512 → g ≤ 512 → length bytes ≡ 512
    → (h : ℕ) × (h ≤ 512)
    × (with_front (with_front a k f (sector_at b k)) k h bytes
    ≡ with_front (with_front a k g bytes) k f (sector_at (with_sector b k bytes) k))
same_sector n a b k f g bytes size is lt le-f le-g full =
    let m = merged f g bytes (sector_at b k) (sector_at a k) le-f le-g full (is.full k lt) in
    let in-a : k < length a = omega (arith, size) in
    let in-b : k < length b = omega (arith, is.count) in (
      m.0,
      m.1,
      with_front_twice a k f m.0 bytes (sector_at b k) in-a
          ∙ ap (λ (l : List ℕ). with_sector a k l) m.2
          ∙ sym (ap (λ (l : List ℕ). with_front (with_front a k g bytes) k f l)
          (sector-with_sector b k bytes in-b) ∙ with_front_twice a k g f bytes bytes in-a),
    )

other_sector : (a b : DiskImage) (k s f g : ℕ) (bytes : List ℕ) → k ≢ s
    → with_front (with_front a k f (sector_at b k)) s g bytes
    ≡ with_front (with_front a s g bytes) k f (sector_at (with_sector b s bytes) k)
other_sector a b k s f g bytes ne =
    with_front_comm a k s f g bytes (sector_at b k) ne
    ∙ ap (λ (l : List ℕ). with_front (with_front a s g bytes) k f l)
    (sym (sector-with_other b k s bytes ne))

pub keeps_step : (n : ℕ) (a b : DiskImage) (k f g : ℕ) (write : Write) → length a ≡ n
    → IsDiskImage n b → IsWriteWithin n write → f ≤ 512 → g ≤ 512
    → (h : ℕ) × (h ≤ 512)
    × (with_front (with_front a k f (sector_at b k)) write.sector h write.bytes
    ≡ with_front (with_front a write.sector g write.bytes) k f
    (sector_at (with_sector b write.sector write.bytes) k))
keeps_step n a b k f g write size is fits le-f le-g =
    ⊎_elim
    (λ (e : write.sector ≡ k).
    let P : ℕ → Type 0 = λ s. s < n → (h : ℕ) × (h ≤ 512)
    × (with_front (with_front a k f (sector_at b k)) s h write.bytes
    ≡ with_front (with_front a s g write.bytes) k f (sector_at (with_sector b s write.bytes) k))
    in
    subst P (sym e) (λ lt. same_sector n a b k f g write.bytes size is lt le-f le-g fits.full)
    fits.within)
    (λ (ne : write.sector ≡ k → ⊥). (
      g,
      le-g,
      other_sector a b k write.sector f g write.bytes (λ e. ne (sym e)),
    ))
    (cases_eq write.sector k)

keeps_from : (n : ℕ) (writes : List Write) (a b image : DiskImage) (k f : ℕ) → length a ≡ n
    → IsDiskImage n b → All (IsWriteWithin n) writes → f ≤ 512 → Leaves writes a image
    → Leaves writes (with_front a k f (sector_at b k))
    (with_front image k f (sector_at (replayed writes b) k))
keeps_from n [] a b image k f size is all le crashed =
    ap (λ (i : DiskImage). with_front i k f (sector_at b k)) crashed
keeps_from n (write ∷ writes) a b image k f size is all le crashed =
    let step = keeps_step n a b k f crashed.0 write size is
    (first_fits n write writes all) le crashed.1 in
    let rest = keeps_from n writes (with_front a write.sector crashed.0 write.bytes)
    (with_sector b write.sector write.bytes) image k f
    (length-set a write.sector _
    ∙ size) (disk_image-with_sector n b write.sector write.bytes is (λ lt.
    (first_fits n write writes all).full)) (rest_fit n write writes all) le crashed.2 in (
      step.0,
      step.1,
      subst (λ (start : DiskImage).
          Leaves writes start
          (with_front image k f (sector_at
          (replayed writes (with_sector b write.sector write.bytes))
          k))) (sym step.2) rest,
    )

pub keeps_more : (n : ℕ) (writes : List Write) (from image : DiskImage) (k f : ℕ)
    → IsDiskImage n from → All (IsWriteWithin n) writes → f ≤ 512 → Leaves writes from image
    → Leaves writes from (with_front image k f (sector_at (replayed writes from) k))
keeps_more n writes from image k f is all le crashed =
    subst (λ (start : DiskImage).
    Leaves writes start (with_front image k f (sector_at (replayed writes from) k)))
    (with_front_self from k f)
    (keeps_from n writes from from image k f is.count is all le crashed)

-- since the last moment there is none
pub none_crashed : (t : ℕ) (past : List (Vec (List ℕ) Global × Vec Write Global))
    (image : DiskImage) → length past ≤ t → HadCrashImage t past image → ⊥
none_crashed t [] image le had = had
none_crashed t (moment ∷ earlier) image le had =
    ⊎_elim (λ (now : (t ≤ length earlier) × Leaves moment.1.items moment.0.items image).
    let no = now.0 in absurd (omega arith))
    (λ (before : HadCrashImage t earlier image). none_crashed t earlier image
    (omega arith) before) had

-- the fronts that numbers name are among those that a cut may leave
pub torn_crashed : (tears : List ℕ) (writes : List Write) (from : DiskImage)
    → Leaves writes from (torn_by tears writes from)
torn_crashed tears [] from = refl
torn_crashed [] (write ∷ writes) from =
    (512, omega arith, torn_crashed [] writes (with_front from write.sector 512 write.bytes))
torn_crashed (tear ∷ tears) (write ∷ writes) from = (
  min tear 512,
  omega arith,
  torn_crashed tears writes (with_front from write.sector (min tear 512) write.bytes),
)

-- and each that a cut may leave is named by some
pub torn_by_some : (writes : List Write) (from image : DiskImage) → Leaves writes from image
    → (tears : List ℕ) × All (λ tear. tear ≤ 512) tears × (image ≡ torn_by tears writes from)
torn_by_some [] from image crashed = ([], All-nil (λ tear. tear ≤ 512), crashed)
torn_by_some (write ∷ writes) from image crashed =
    let rest = torn_by_some writes (with_front from write.sector crashed.0 write.bytes)
    image crashed.2 in
    let same : crashed.0 ≡ min crashed.0 512 = let le = crashed.1 in omega arith in (
      crashed.0 ∷ rest.0,
      All-cons (λ tear. tear ≤ 512) crashed.0 rest.0 crashed.1 rest.1,
      rest.2 ∙ ap (λ (front : ℕ).
          torn_by rest.0 writes (with_front from write.sector front write.bytes)) same,
    )

pub length-replayed : (writes : List Write) (from : DiskImage)
    → length (replayed writes from) ≡ length from
length-replayed [] from = refl
length-replayed (write ∷ writes) from = length-replayed writes _
    ∙ length-set from write.sector write.bytes

-- one write on
pub torn_step : (tears : List ℕ) (i : ℕ) (writes : List Write) (d : Write) (image : DiskImage)
    → i < length writes
    → torn_by (drop i tears) (drop i writes) image
    ≡ torn_by (drop (i + 1) tears) (drop (i + 1) writes)
    (with_front image (get_or writes i d).sector (first_front (drop i tears))
    (get_or writes i d).bytes)
torn_step tears i writes d image lt =
    ap (λ (l : List Write). torn_by (drop i tears) l image) (drop_more writes i d lt)
    ∙ ap (λ (l : List ℕ).
    torn_by l (drop (i + 1) writes) (with_front image (get_or writes i d).sector
    (first_front (drop i tears)) (get_or writes i d).bytes)) (drop-drop 1 i tears)

-- one moment more
pub had_more : (t : ℕ) (durable : Vec (List ℕ) Global) (writes : Vec Write Global)
    (past moments : List (Vec (List ℕ) Global × Vec Write Global)) (image : DiskImage)
    → moments ≡ (durable, writes) ∷ past → t ≤ length past
    → Leaves writes.items durable.items image ⊎ HadCrashImage t past image
    → HadCrashImage t moments image
had_more t durable writes past moments image e le crashed =
    subst (λ (l : List (Vec (List ℕ) Global × Vec Write Global)). HadCrashImage t l image) (sym e)
    (⊎_elim (λ now. inl (le, now)) (λ had. inr had) crashed)

pub had_less : (t : ℕ) (durable : Vec (List ℕ) Global) (writes : Vec Write Global)
    (past moments : List (Vec (List ℕ) Global × Vec Write Global)) (image : DiskImage)
    → moments ≡ (durable, writes) ∷ past
    → HadCrashImage t moments image → Leaves writes.items durable.items image
    ⊎ HadCrashImage t past image
had_less t durable writes past moments image e had =
    let here : HadCrashImage t ((durable, writes) ∷ past) image =
    subst (λ (l : List (Vec (List ℕ) Global × Vec Write Global)). HadCrashImage t l image) e had in
    ⊎_elim (λ now. inl now.1) (λ before. inr before) here
