-- How many sectors of a journal are filled.
use Rattle.std.proofs.Common.{◌≡◌, ℕ, zero, suc, ◌+◌, ◌-◌, ◌<◌, ◌≤◌, true, false, List}
use Rattle.std.proofs.Common.{refl, ap, ◌∙◌, subst, ⊎_elim, arith}
use Rattle.std.proofs.lemmas.Bool.{cases_lt, cond-true, cond-false}
use Rattle.sector_disk.specs.rules.DiskImage.{DiskImage, sector_at}
use Rattle.disk_layout.specs.rules.Places.{Geometry, journal_place}
use Rattle.disk_layout.specs.rules.Journal.{is_of}
use Rattle.journal.specs.rules.Filled.{filled_from, sectors_filled}
use Rattle.journal.specs.rules.Steps.{HoldsBytes, records_bytes}
use Rattle.journal.specs.laws.Filled.{FillsWhatIsStored, FillsWhatIsHeld}
use Rattle.journal.proofs.HeldLemmas.{EndsAt, ends_where_clean}

-- the first n sectors from s on, whose places are counted from p, are of generation g
abbrev pub AreOn : DiskImage → ℕ → ℕ → ℕ → ℕ → Type 0
AreOn image g s p n = (k : ℕ) → k < n → is_of g (p + k) (sector_at image (s + k)) ≡ true

here_on : (image : DiskImage) (g s p n : ℕ) → AreOn image g s p (suc n)
    → is_of g p (sector_at image s) ≡ true
here_on image g s p n on =
    let e : s + 0 ≡ s = omega arith in
    let f : p + 0 ≡ p = omega arith in
    subst (λ (q : ℕ). is_of g q (sector_at image s) ≡ true) f
    (subst (λ (t : ℕ). is_of g (p + 0) (sector_at image t) ≡ true) e (on 0 (omega arith)))

rest_on : (image : DiskImage) (g s p n : ℕ) → AreOn image g s p (suc n)
    → AreOn image g (s + 1) (p + 1) n
rest_on image g s p n on k lt =
    let e : s + suc k ≡ s + 1 + k = omega arith in
    let f : p + suc k ≡ p + 1 + k = omega arith in
    subst (λ (q : ℕ). is_of g q (sector_at image (s + 1 + k)) ≡ true) f
    (subst (λ (t : ℕ). is_of g (p + suc k) (sector_at image t) ≡ true) e
    (on (suc k) (omega arith)))

-- they are counted, and then those after them
filled_split : (image : DiskImage) (g s p n m : ℕ) → AreOn image g s p n
    → filled_from image g s p (n + m) ≡ n + filled_from image g (s + n) (p + n) m
filled_split image g s p zero m on =
    ap (λ k. filled_from image g s p k) (let e : 0 + m ≡ m = omega arith in e)
    ∙ ap (λ k. filled_from image g k p m) (let e : s ≡ s + 0 = omega arith in e)
    ∙ ap (λ k. filled_from image g (s + 0) k m) (let e : p ≡ p + 0 = omega arith in e)
    ∙ plus_zero (filled_from image g (s + 0) (p + 0) m)
  where
    plus_zero : (x : ℕ) → x ≡ 0 + x
    plus_zero x = omega arith
filled_split image g s p (suc n) m on =
    let rest = filled_split image g (s + 1) (p + 1) n m (rest_on image g s p n on) in
    ap (λ k. filled_from image g s p k) (let e : suc n + m ≡ suc (n + m) = omega arith in e)
    ∙ cond-true (is_of g p (sector_at image s))
    (suc (filled_from image g (s + 1) (p + 1) (n + m))) 0 (here_on image g s p n on)
    ∙ ap (λ k. suc k) rest ∙ plus_suc (filled_from image g (s + 1 + n) (p + 1 + n) m)
    ∙ ap (λ k. suc n + filled_from image g k (p + 1 + n) m)
    (let e : s + 1 + n ≡ s + suc n = omega arith in e)
    ∙ ap (λ k. suc n + filled_from image g (s + suc n) k m)
    (let e : p + 1 + n ≡ p + suc n = omega arith in e)
  where
    plus_suc : (x : ℕ) → suc (n + x) ≡ suc n + x
    plus_suc x = omega arith

filled_off : (image : DiskImage) (g s p m : ℕ) → is_of g p (sector_at image s) ≡ false
    → filled_from image g s p m ≡ 0
filled_off image g s p zero off = refl
filled_off image g s p (suc m) off =
    cond-false (is_of g p (sector_at image s))
    (suc (filled_from image g (s + 1) (p + 1) m)) 0 off

-- all are filled
pub filled_all : (image : DiskImage) (g s p n : ℕ) → AreOn image g s p n
    → filled_from image g s p n ≡ n
filled_all image g s p n on =
    ap (λ k. filled_from image g s p k) (let e : n ≡ n + 0 = omega arith in e)
    ∙ filled_split image g s p n 0 on ∙ (let e : n + 0 ≡ n = omega arith in e)

-- a sector of another kind ends them
pub filled_up_to : (image : DiskImage) (g s p n count : ℕ) → n ≤ count → AreOn image g s p n
    → is_of g (p + n) (sector_at image (s + n)) ≡ false
    → filled_from image g s p count ≡ n
filled_up_to image g s p n count le on off =
    ap (λ k. filled_from image g s p k) (let e : count ≡ n + (count - n) = omega arith in e)
    ∙ filled_split image g s p n (count - n) on
    ∙ ap (λ k. n + k) (filled_off image g (s + n) (p + n) (count - n) off)
    ∙ (let e : n + 0 ≡ n = omega arith in e)

-- one more is of the generation
pub one_more_on : (image : DiskImage) (g s k : ℕ) → AreOn image g s 1 k
    → is_of g (1 + k) (sector_at image (s + k)) ≡ true → AreOn image g s 1 (k + 1)
one_more_on image g s k on here i lt =
    ⊎_elim (λ (before : i < k). on i before)
    (λ (last : k ≤ i). let e : k ≡ i = omega arith in
    subst (λ (n : ℕ). is_of g (1 + n) (sector_at image (s + n)) ≡ true) e here)
    (cases_lt i k)

fills : (geometry : Geometry) (g used : ℕ) (bytes : List ℕ) (image : DiskImage)
    → HoldsBytes geometry g used bytes image → EndsAt geometry g used image
    → sectors_filled geometry image g ≡ used
fills geometry g used bytes image holds ends =
    ⊎_elim
    (λ (more : used < geometry.journal_sectors).
    filled_up_to image g (journal_place geometry) 1 used geometry.journal_sectors holds.within
    holds.written (ends more))
    (λ (whole : geometry.journal_sectors ≤ used).
    let same : geometry.journal_sectors ≡ used = omega (arith, holds.within) in
    ap (λ n. filled_from image g (journal_place geometry) 1 n) same
    ∙ filled_all image g (journal_place geometry) 1 used holds.written)
    (cases_lt used geometry.journal_sectors)

pub fills_what_is_stored : FillsWhatIsStored
fills_what_is_stored geometry v g used records image holds =
    fills geometry g used (records_bytes v records) image holds.holds_bytes
    (ends_where_clean geometry g used image holds.clean)

pub fills_what_is_held : FillsWhatIsHeld
fills_what_is_held geometry v g records image holds =
    fills geometry g holds.used holds.bytes image holds.holds_bytes holds.ends
