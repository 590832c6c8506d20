-- What is read field by field: fields in front of others, and none in front.
use Rattle.std.proofs.Common.{◌≡◌, ℕ, zero, suc, ◌+◌, ◌*◌, ◌<◌, List, ◌++◌, length}
use Rattle.std.proofs.Common.{get_or, drop, sym, ap, ◌∙◌, append_assoc, arith}
use Rattle.std.proofs.Math.Seq.{drop-cons}
use Rattle.std.proofs.lemmas.List.{drop_all}
use Rattle.byteorder.specs.Endian.{little_from}
use Rattle.std.specs.Prelude.{Option, Some, None}
use Rattle.std.specs.List.{AllByRecursion}
use Rattle.guest_memory.specs.rules.Bytes.{IsByte, number_of, bytes_of}
use Rattle.guest_memory.proofs.ByteLemmas.{length-bytes_of, bytes_of-number_of}
use Rattle.state_image.specs.rules.Ranges.{IsIn}
use Rattle.state_image.specs.rules.Reading.{HasField, LacksField, ReadsField}
use Rattle.state_image.proofs.Fields.{Tells}

-- ---- what was read is what is in front

-- bytes in front of others
pub in_two : (a b old mid new : List ℕ) → old ≡ a ++ mid → mid ≡ b ++ new
    → old ≡ (a ++ b) ++ new
in_two a b old mid new e h = e ∙ ap (λ xs. a ++ xs) h ∙ sym (append_assoc a b new)

-- a field that was read is that of any value whose bytes begin with one
pub is_that : {X : Type 0} {P : X → Type 0} {f : X → List ℕ} → Tells X P f
    → {x : X} {old mid : List ℕ} → HasField f P x old mid
    → (y : X) (more : List ℕ) → P y → old ≡ f y ++ more → (x ≡ y) × (mid ≡ more)
is_that tells {x} {old} {mid} has y more within e =
    tells.front x y mid more has.in_range within (sym has.is ∙ e)

-- a reader gives the field that is in front, and leaves what is after it
pub gives : {X : Type 0} {P : X → Type 0} {f : X → List ℕ} → Tells X P f
    → (result : Option X) {old new : List ℕ} → ReadsField f P result old new
    → (x : X) (rest : List ℕ) → P x → old ≡ f x ++ rest → (result ≡ Some x) × (new ≡ rest)
gives tells (Some y) has x rest within e =
    let same = is_that tells has x rest within e in (ap (λ z. Some z) same.0, same.1)
gives tells None lacks x rest within e = absurd (lacks.none x rest within e)

-- ---- nothing in front

-- the first of several fields isn't there
pub none_first : {X Z : Type 0} {P : X → Type 0} {f : X → List ℕ} {In : Z → Type 0}
    (get : Z → X) (more : Z → List ℕ) → ((z : Z) → In z → P (get z)) → {old new : List ℕ}
    → LacksField f P old new → LacksField (λ z. f (get z) ++ more z) In old new
none_first {f = f} get more within lacks = record {
  none = λ z rest inside e. lacks.none (get z) (more z ++ rest) (within z inside)
      (e ∙ append_assoc (f (get z)) (more z) rest);
  passed = lacks.passed;
  is = lacks.is;
}

-- it is there, and the others aren't
pub none_behind : {X Z : Type 0} {P : X → Type 0} {f : X → List ℕ} {In : Z → Type 0} → Tells X P f
    → (get : Z → X) (more : Z → List ℕ) → ((z : Z) → In z → P (get z))
    → {x : X} {old mid new : List ℕ} → HasField f P x old mid
    → ((z : Z) (rest : List ℕ) → In z → get z ≡ x → mid ≡ more z ++ rest → ⊥)
    → (passed : List ℕ) → mid ≡ passed ++ new
    → LacksField (λ z. f (get z) ++ more z) In old new
none_behind {f = f} tells get more within {x} {old} {mid} {new} has none passed is = record {
  none = λ z rest inside e.
      let same = is_that tells has (get z) (more z ++ rest) (within z inside)
      (e ∙ append_assoc (f (get z)) (more z) rest) in
      none z rest inside (sym same.0) same.1;
  passed = f x ++ passed;
  is = in_two (f x) passed old mid new has.is is;
}

-- the same where the others don't hang on it
pub none_after : {X Z : Type 0} {P : X → Type 0} {f : X → List ℕ} {In : Z → Type 0} → Tells X P f
    → (get : Z → X) (more : Z → List ℕ) → ((z : Z) → In z → P (get z))
    → {x : X} {old mid new : List ℕ} → HasField f P x old mid → LacksField more In mid new
    → LacksField (λ z. f (get z) ++ more z) In old new
none_after tells get more within has lacks =
    none_behind tells get more within has (λ z rest inside same e. lacks.none z rest inside e)
    lacks.passed lacks.is

-- a field of something else
pub none_of : {X Z : Type 0} {P : X → Type 0} {f : X → List ℕ} {In : Z → Type 0}
    (get : Z → X) → ((z : Z) → In z → P (get z)) → {old new : List ℕ}
    → LacksField f P old new → LacksField (λ z. f (get z)) In old new
none_of get within lacks = record {
  none = λ z rest inside e. lacks.none (get z) rest (within z inside) e;
  passed = lacks.passed;
  is = lacks.is;
}

-- ---- numbers

-- so many bytes that weren't there are the bytes of no number
pub none_word : (n : ℕ) {old new : List ℕ} → LacksField (λ b. b) (λ b. length b ≡ n) old new
    → LacksField (bytes_of n) (IsIn n) old new
none_word n lacks = none_of (bytes_of n) (λ x small. length-bytes_of n x) lacks

-- bytes that are those of a value
pub has_spelled : {X : Type 0} {P : X → Type 0} (f : X → List ℕ) (x : X) {Q : List ℕ → Type 0}
    {b old new : List ℕ} → P x → f x ≡ b → HasField (λ (b : List ℕ). b) Q b old new
    → HasField f P x old new
has_spelled f x {b = b} {new = new} within e has =
    record { in_range = within; is = has.is ∙ ap (λ xs. xs ++ new) (sym e) }

-- the number that the first n bytes from a place on spell
from_place : (n i : ℕ) (xs : List ℕ) → length xs ≡ i + n
    → little_from i n xs ≡ number_of (drop i xs)
from_place zero i xs l = sym (ap number_of (drop_all i xs (omega (arith, l))))
from_place (suc n) i xs l =
    let more : i < length xs = omega (arith, l) in
    let later = from_place n (suc i) xs (omega (arith, l)) in
    ap (λ k. get_or xs i 0 + 256 * k) later ∙ sym (ap number_of (drop-cons xs i 0 more))

-- so many bytes are those of the number that they spell
pub word_in : (n : ℕ) (b : List ℕ) → length b ≡ n → AllByRecursion IsByte b
    → bytes_of n (little_from 0 n b) ≡ b
word_in n b l small =
    ap (λ k. bytes_of n k) (from_place n 0 b (omega (arith, l)))
    ∙ ap (λ k. bytes_of k (number_of b)) (sym l) ∙ bytes_of-number_of b small
