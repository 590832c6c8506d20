-- Worked examples of runs of writes.
use Rattle.std.proofs.Common.{◌≡◌, ℕ, zero, suc, ◌+◌, ◌<◌, ◌≤◌, List, [], ◌∷◌, length}
use Rattle.std.proofs.Common.{replicate, get_or, refl, sym, ap, arith}
use Rattle.sector_disk.specs.rules.DiskImage.{DiskImage, sector_at, front_over, with_front}
use Rattle.sector_disk.specs.laws.Examples.{three, with_both, eights_and_nines, RunExamples}

pub differ : (a b : ℕ) → a ≡ b → a < b → ⊥
differ a b e less = omega (arith, e, less)

-- a byte of two sectors that are the same
pub byte_of : (i : ℕ) {a b : List ℕ} → a ≡ b → get_or a i 0 ≡ get_or b i 0
byte_of i e = ap (λ l. get_or l i 0) e

-- no other sectors
pub below_one : (P : ℕ → Type 0) → P 0 → (k : ℕ) → k < 1 → P k
below_one P here zero less = here
below_one P here (suc k) less = absurd (none k less)
  where
    none : (k : ℕ) → suc k < 1 → ⊥
    none k less = omega (arith, less)

pub below_two : (P : ℕ → Type 0) → P 0 → P 1 → (k : ℕ) → k < 2 → P k
below_two P first second zero less = first
below_two P first second (suc zero) less = second
below_two P first second (suc (suc k)) less = absurd (none k less)
  where
    none : (k : ℕ) → suc (suc k) < 2 → ⊥
    none k less = omega (arith, less)

-- from one number on, as from the one before it on
pub peel : (P : ℕ → Type 0) (n : ℕ) → ((k : ℕ) → n ≤ k → P (suc k)) → (k : ℕ) → suc n ≤ k → P k
peel P n more zero le = absurd (omega (arith, le))
peel P n more (suc k) le = more k (omega (arith, le))

from_three : (P : ℕ → Type 0) → ((k : ℕ) → P (suc (suc (suc k)))) → (k : ℕ) → 3 ≤ k → P k
from_three P more = peel P 2
    (peel (λ k. P (suc k)) 1 (peel (λ k. P (suc (suc k))) 0 (λ k le. more k)))

from_two : (P : ℕ → Type 0) → P 2 → ((k : ℕ) → P (suc (suc (suc k)))) → (k : ℕ) → 2 ≤ k → P k
from_two P here more = peel P 1 (peel (λ k. P (suc k)) 0 (λ k le. at_two k))
  where
    at_two : (k : ℕ) → P (suc (suc k))
    at_two zero = here
    at_two (suc k) = more k

-- the sector is as it was
abbrev is_same : DiskImage → ℕ → Type 0
is_same new k = sector_at new k ≡ sector_at three k

-- the sector is that of the run, or a prefix of it
abbrev is_run : DiskImage → ℕ → Type 0
is_run new j = sector_at new (1 + j) ≡ sector_at eights_and_nines j

abbrev is_front : DiskImage → ℕ → Type 0
is_front new j = (front : ℕ) × (front ≤ 512)
    × (sector_at new (1 + j)
    ≡ front_over front (sector_at eights_and_nines j) (sector_at three (1 + j)))

abbrev whole : DiskImage
whole = with_both (8 ∷ 8 ∷ []) (9 ∷ 9 ∷ [])

abbrev first : DiskImage
first = with_both (8 ∷ 8 ∷ []) (3 ∷ 3 ∷ [])

abbrev torn : DiskImage
torn = with_both (8 ∷ 2 ∷ []) (3 ∷ 3 ∷ [])

-- a prefix of at most one byte isn't both
not_both : (front : ℕ) → front ≤ 1
    → with_both (8 ∷ 8 ∷ []) (3 ∷ 3 ∷ []) ≡ with_front three 1 front (8 ∷ 8 ∷ []) → ⊥
not_both zero le e = differ 2 8 (sym (byte_of 1 (ap (λ i. sector_at i 1) e))) (omega arith)
not_both (suc zero) le e = differ 2 8 (sym (byte_of 1 (ap (λ i. sector_at i 1) e))) (omega arith)
not_both (suc (suc front)) le e = absurd (none front le)
  where
    none : (front : ℕ) → suc (suc front) ≤ 1 → ⊥
    none front le = omega (arith, le)

-- no front is the last byte alone
not_behind : (front : ℕ) → 2 ∷ 8 ∷ [] ≡ front_over front (8 ∷ 8 ∷ []) (2 ∷ 2 ∷ []) → ⊥
not_behind zero e = differ 2 8 (sym (byte_of 1 e)) (omega arith)
not_behind (suc zero) e = differ 2 8 (byte_of 0 e) (omega arith)
not_behind (suc (suc front)) e = differ 2 8 (byte_of 0 e) (omega arith)

pub run_examples : RunExamples
run_examples = record {
  image = record {
    count = refl;
    full = below_one (λ k. length (sector_at (replicate 512 0 ∷ []) k) ≡ 512) refl;
  };
  short_sector = λ i. differ 511 512 (i.full 0 (omega arith)) (omega arith);
  too_few_sectors = λ i. differ 1 2 i.count (omega arith);
  torn_within = record { front = 1; within = omega arith; is = refl };
  torn_beyond = λ t. not_both t.front t.within t.is;
  written = record {
    count = refl;
    below = below_one (is_same whole) refl;
    above = from_three (is_same whole) (λ k. refl);
    each = below_two (is_run whole) refl refl;
  };
  first_written = record {
    count = refl;
    below = below_one (is_same first) refl;
    above = from_two (is_same first) refl (λ k. refl);
    each = below_one (is_run first) refl;
  };
  last_not_written = λ w. differ 3 9 (byte_of 0 (w.each 1 (omega arith))) (omega arith);
  written_beyond = λ w. differ 3 9 (sym (byte_of 0 (w.above 2 (omega arith)))) (omega arith);
  written_before = λ w. differ 1 7 (sym (byte_of 0 (w.below 0 (omega arith)))) (omega arith);
  written_longer = λ w. differ 3 4 (sym w.count) (omega arith);
  torn = record {
    count = refl;
    below = below_one (is_same torn) refl;
    above = from_three (is_same torn) (λ k. refl);
    each = below_two (is_front torn) (1, omega arith, refl) (0, omega arith, refl);
  };
  torn_beside = λ t. (let each = t.each 0 (omega arith) in not_behind each.0 each.2);
  torn_beyond_the_run = λ t. differ 3 9 (sym (byte_of 0 (t.above 2 (omega arith)))) (omega arith);
  torn_before = λ t. differ 1 7 (sym (byte_of 0 (t.below 0 (omega arith)))) (omega arith);
  torn_longer = λ t. differ 3 4 (sym t.count) (omega arith);
}
