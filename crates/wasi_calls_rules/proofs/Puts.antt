-- Bytes put into memory: its length stays, and so does what holds of each of its bytes.
use Rattle.std.proofs.Common.{◌≡◌, ℕ, zero, suc, ◌+◌, ◌*◌, ◌/◌, ◌%◌, ◌≤◌, List, [], ◌∷◌, length}
use Rattle.std.proofs.Common.{take, drop, refl, arith, length-take}
use Rattle.std.specs.Prelude.{Bool, true, false, ◌&&◌}
use Rattle.std.specs.List.{AllByRecursion, list_all}
use Rattle.std.proofs.lemmas.Bool.{leb-true}
use Rattle.guest_memory.specs.rules.Bytes.{bytes_of, with_part}
use Rattle.guest_memory.proofs.ByteLemmas.{length-bytes_of}
use Rattle.wasi_abi.specs.rules.Layouts.{fdstat_bytes}
use Rattle.wasi_calls_rules.specs.Checks.{Bytes, Buffer, is_inside, scattered}
use Rattle.wasi_calls_rules.specs.Small.{with_zeros, pointers_to}
use Rattle.guest_memory.proofs.Ranges.{length-with_part}
use Rattle.guest_memory.proofs.Lists.{all_both, all_take, all_drop}

-- ---- lengths

pub length-fdstat : (file_type flags base inheriting : ℕ)
    → length (fdstat_bytes file_type flags base inheriting) ≡ 24
length-fdstat file_type flags base inheriting = refl

pub length-pointers_to : (from : ℕ) (texts : List Bytes)
    → length (pointers_to from texts) ≡ 4 * length texts
length-pointers_to from [] = refl
length-pointers_to from (text ∷ texts) =
    let rest : length (pointers_to (from + length text + 1) texts) ≡ 4 * length texts =
    length-pointers_to (from + length text + 1) texts in
    omega (arith, rest)

-- ---- what is kept

-- the memory after is as long as before, and this holds of each of its bytes
pub record IsKept (Q : ℕ → Type 0) (before after : Bytes) : Type 0 where
  pub size : length after ≡ length before
  pub bytes : AllByRecursion Q after

-- a buffer lies within memory
abbrev pub Lies : Bytes → Buffer → Type 0
Lies m b = b.from + b.len ≤ length m

pub all_lie : (m : Bytes) (bs : List Buffer) → list_all (is_inside m) bs ≡ true
    → AllByRecursion (Lies m) bs
all_lie m [] e = tt
all_lie m (b ∷ bs) e =
    let both = halves (is_inside m b) (list_all (is_inside m) bs) e in
    (leb-true (b.from + b.len) (length m) both.0, all_lie m bs both.1)
  where
    halves : (p q : Bool) → (p && q) ≡ true → (p ≡ true) × (q ≡ true)
    halves true q h = (refl, h)
    halves false q h = (h, absurd (cc))

module _ (Q : ℕ → Type 0) (low : (x : ℕ) → Q (x % 256)) where
  pub number_holds : (n x : ℕ) → AllByRecursion Q (bytes_of n x)
  number_holds zero x = tt
  number_holds (suc n) x = (low x, number_holds n (x / 256))

  -- at most so many bytes, where there is room for them
  pub put : (m now : Bytes) (from n : ℕ) (bytes : Bytes) → from + n ≤ length m → length bytes ≤ n
      → AllByRecursion Q bytes → IsKept Q m now → IsKept Q m (with_part now from bytes)
  put m now from n bytes room few h k =
      let old = k.size in
      let size = length-with_part now from bytes (omega arith) in
      record {
        size = omega (arith, size);
        bytes = all_both Q _ _ (all_take Q from now k.bytes)
            (all_both Q _ _ h (all_drop Q (from + length bytes) now k.bytes));
      }

  pub put_number : (m now : Bytes) (from n x : ℕ) → from + n ≤ length m → IsKept Q m now
      → IsKept Q m (with_part now from (bytes_of n x))
  put_number m now from n x room k = let e = length-bytes_of n x in
      put m now from n (bytes_of n x) room (omega (arith, e)) (number_holds n x) k

  pub scattered_kept : (m now : Bytes) (bs : List Buffer) (bytes : Bytes)
      → AllByRecursion (Lies m) bs → AllByRecursion Q bytes → IsKept Q m now
      → IsKept Q m (scattered now bs bytes)
  scattered_kept m now [] bytes inside h k = k
  scattered_kept m now (b ∷ bs) bytes inside h k =
      scattered_kept m (with_part now b.from (take b.len bytes)) bs (drop b.len bytes) inside.1
      (all_drop Q b.len bytes h)
      (put m now b.from b.len (take b.len bytes) inside.0 (simp length-take (omega arith))
      (all_take Q b.len bytes h) k)

  pub zeros_hold : (texts : List Bytes) → AllByRecursion (AllByRecursion Q) texts
      → AllByRecursion Q (with_zeros texts)
  zeros_hold [] h = tt
  zeros_hold (text ∷ texts) h = all_both Q text _ h.0 (low 0, zeros_hold texts h.1)

  pub pointers_hold : (from : ℕ) (texts : List Bytes) → AllByRecursion Q (pointers_to from texts)
  pointers_hold from [] = tt
  pointers_hold from (text ∷ texts) =
      all_both Q (bytes_of 4 from) _ (number_holds 4 from) (pointers_hold (from + length text
      + 1) texts)
