-- A list of frames that is kept from the outermost in, and seen from the innermost out.
use Rattle.std.proofs.Common.{◌≡◌, ℕ, ◌+◌, ◌-◌, ◌<◌, ◌≤◌, List, [], ◌∷◌, length, take, get_or}
use Rattle.std.proofs.Common.{set, refl, sym, ap, ◌∙◌, subst, arith}
use Rattle.std.specs.Prelude.{reverse}
use Rattle.std.proofs.lemmas.List.{reverse-append, length-reverse, take_more, take_more_set}
use Rattle.std.proofs.lemmas.List.{length-take-le}

-- the last one that is taken is seen first
last_one : {X : Type 0} (xs : List X) (last : ℕ) (d : X) → last < length xs
    → reverse (take (last + 1) xs) ≡ get_or xs last d ∷ reverse (take last xs)
last_one xs last d h =
    rw (take_more xs last d h) (reverse-append (take last xs) (get_or xs last d ∷ []))

module _ {X : Type 0} (xs : List X) (height : ℕ) (within : height ≤ length xs) (d : X)
    (first second : X) (others : List X)
    (is : reverse (take height xs) ≡ first ∷ second ∷ others) where
  abbrev next : ℕ
  next = height - 1 - 1

  many : next + 1 + 1 ≡ height
  many =
      let count = ap length is in let turned = length-reverse (take height xs) in
      let taken = length-take-le height xs within in omega (arith, count, turned, taken)

  both : get_or xs (next + 1) d ∷ (get_or xs next d ∷ reverse (take next xs))
      ≡ first ∷ second ∷ others
  both =
      let enough = many in
      ap (λ z. get_or xs (next + 1) d ∷ z)
      (sym (last_one xs next d (omega (arith, enough, within))))
      ∙ sym (last_one xs (next + 1) d (omega (arith, enough, within)))
      ∙ ap (λ n. reverse (take n xs)) enough ∙ is

  -- the second one
  pub second_is : get_or xs next d ≡ second
  second_is = let e = both in cc

  others_are : reverse (take next xs) ≡ others
  others_are = let e = both in cc

  -- without the first one, and with another one for the second
  pub left : (y : X) → reverse (take (height - 1) (set xs next y)) ≡ y ∷ others
  left y =
      let enough = many in
      let one : height - 1 ≡ next + 1 = omega (arith, enough) in
      ap (λ n. reverse (take n (set xs next y))) one
      ∙ ap reverse (take_more_set xs next y (omega (arith, enough, within)))
      ∙ reverse-append (take next xs) (y ∷ []) ∙ ap (λ z. y ∷ z) others_are

-- what holds of the second one, holds of it in the list
pub second_has : {X : Type 0} (xs : List X) (height : ℕ) (within : height ≤ length xs) (d : X)
    (seen : List X) → reverse (take height xs) ≡ seen → 1 < length seen → (P : X → Type 0)
    → ((first second : X) (others : List X) → seen ≡ first ∷ second ∷ others → P second)
    → P (get_or xs (height - 1 - 1) d)
second_has xs height within d [] is many P h = absurd (omega (arith, many))
second_has xs height within d (first ∷ []) is many P h = absurd (omega (arith, many))
second_has xs height within d (first ∷ second ∷ others) is many P h =
    subst P (sym (second_is xs height within d first second others is))
    (h first second others refl)
