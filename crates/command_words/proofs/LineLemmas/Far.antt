-- A request line but for its number, which is too great.
use Rattle.std.proofs.Common.{◌≡◌, ◌≢◌, ◌⊎◌, ℕ, ◌<◌, ◌≤◌, ◌^◌, ◌&&◌, Bool, true, false, List, []}
use Rattle.std.proofs.Common.{◌∷◌, ◌++◌, length, slice_index, codes, ap, ◌∙◌, subst, arith}
use Rattle.std.proofs.Common.{zero, suc}
use Rattle.std.specs.Char.{is_ascii_digit}
use Rattle.std.specs.Fmt.{decimal}
use Rattle.std.specs.List.{list_all}
use Rattle.std.proofs.lemmas.Bool.{false≢true}
use Rattle.std.proofs.lemmas.Fmt.{decimal_digit}
use Rattle.std.proofs.lemmas.List.Folds.{list_all_at}
use Rattle.command_words.specs.rules.Flaws.{IsFarRequest, is_numeral}

and_right : (a b : Bool) → (a && b) ≡ true → b ≡ true
and_right true b both = both
and_right false b both = absurd cc

-- the digits of a numeral are digits
numeral_digits : (ds : List ℕ) → is_numeral ds ≡ true → list_all is_ascii_digit ds ≡ true
numeral_digits [] none = absurd cc
numeral_digits (d ∷ ds) is = and_right _ (list_all is_ascii_digit (d ∷ ds)) is

-- no digit is a space
pub no_space_in : (ds : List ℕ) → is_numeral ds ≡ true → (k : ℕ) → k < length ds
    → slice_index ds k ≢ 32
no_space_in ds is k inside space =
    let all = numeral_digits ds is in
    let some : list_all is_ascii_digit ds ≡ false =
    list_all_at is_ascii_digit ds k 0 inside (ap is_ascii_digit space) in
    absurd cc

-- a numeral isn't that of 0
pub not_zero : (ds : List ℕ) → is_numeral ds ≡ true → ds ≡ decimal 0 → ⊥
not_zero ds is spelled =
    absurd (false≢true (subst (λ (l : List ℕ). is_numeral l ≡ true)
    (spelled ∙ decimal_digit 0 (omega arith)) is))

-- so it is that of a number from 1 on
pub from_1 : (ds : List ℕ) → is_numeral ds ≡ true → (n : ℕ) → ds ≡ decimal n → 1 ≤ n
from_1 ds is zero spelled = absurd (not_zero ds is spelled)
from_1 ds is (suc n) spelled = omega arith

-- the parts of a line whose number is too great
module _ (line digits said : List ℕ) (is : line ≡ digits ++ 32 ∷ said)
    (far : (is_numeral digits ≡ true) × ((n : ℕ) → n < 2 ^ 63 → digits ≡ decimal n → ⊥)) where
  pub far_parts : (said ≡ codes "e") ⊎ ((text : List ℕ) × (said ≡ codes "r " ++ text))
      → IsFarRequest line
  far_parts form = record {
    digits = digits;
    numeral = far.0;
    far = far.1;
    said = said;
    is = is;
    form = form;
  }
