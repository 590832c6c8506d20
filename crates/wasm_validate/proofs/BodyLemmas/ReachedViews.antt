-- Whether all open sequences are reached, and all their operands, seen on one stack of operands.
use Rattle.std.proofs.Common.{◌≡◌, ℕ, ◌+◌, ◌-◌, ◌<◌, ◌≤◌, get_or, Bool, true, false, List, [], ◌∷◌}
use Rattle.std.proofs.Common.{◌++◌, length, take, drop, Some, None, refl, sym, ap, ◌∙◌, subst}
use Rattle.std.proofs.Common.{arith, length-drop}
use Rattle.std.specs.Prelude.{◌&&◌, reverse, slice_get}
use Rattle.std.proofs.lemmas.List.{append-nil, reverse-append, length-reverse, take-append-drop}
use Rattle.std.proofs.lemmas.List.{at_drop_more}
use Rattle.std.proofs.Math.Seq.{take-add, drop-append_seam}
use Rattle.wasm_validate.specs.declared.body.levels.Control.{Control}
use Rattle.wasm_validate.specs.laws.Checking.{Known}
use Rattle.wasm_validate.specs.laws.Reached.{are_reached, all_operands}
use Rattle.wasm_validate.specs.Body.Views.{levels_of, AreHeights}

-- ---- reach

abbrev pub controls_reached : List Control → Bool
controls_reached [] = true
controls_reached (k ∷ controls) = k.is_reached && controls_reached controls

pub reached_view : (controls : List Control) (operands : List Known)
    → are_reached (levels_of controls operands) ≡ controls_reached controls
reached_view [] operands = refl
reached_view (k ∷ controls) operands =
    ap (λ z. k.is_reached && z) (reached_view controls
    (drop (length operands - k.height) operands))

-- the tests in another order
swapped : (a b : Bool) → (b && (a && true)) ≡ (a && b)
swapped true true = refl
swapped true false = refl
swapped false true = refl
swapped false false = refl

reached_on : (a b : List Control) → controls_reached (a ++ b)
    ≡ (controls_reached a && controls_reached b)
reached_on [] b = refl
reached_on (k ∷ a) b = ap (λ z. k.is_reached && z) (reached_on a b)
    ∙ sym (grouped k.is_reached (controls_reached a) (controls_reached b))
  where
    grouped : (x y z : Bool) → ((x && y) && z) ≡ (x && (y && z))
    grouped true y z = refl
    grouped false y z = refl

-- seen from below
pub reached_turned : (controls : List Control)
    → controls_reached (reverse controls) ≡ controls_reached controls
reached_turned [] = refl
reached_turned (k ∷ controls) =
    ap controls_reached (reverse-append (k ∷ []) controls)
    ∙ reached_on (reverse controls) (k ∷ [])
    ∙ ap (λ z. z && (k.is_reached && true)) (reached_turned controls)
    ∙ swapped k.is_reached (controls_reached controls)

module _ (controls : List Control) (n : ℕ) (d : Control) (h : n < length controls) where
  pub one_unreached : (get_or controls n d).is_reached ≡ false
      → controls_reached (drop n controls) ≡ false
  one_unreached e =
      at_drop_more controls_reached controls n d h
      ∙ ap (λ z. z && controls_reached (drop (n + 1) controls)) e

  pub one_reached : (get_or controls n d).is_reached ≡ true
      → controls_reached (drop n controls) ≡ controls_reached (drop (n + 1) controls)
  one_reached e =
      at_drop_more controls_reached controls n d h
      ∙ ap (λ z. z && controls_reached (drop (n + 1) controls)) e

-- ---- operands

-- where the outermost sequence begins
abbrev pub bottom_of : List Control → ℕ
bottom_of [] = 0
bottom_of (k ∷ []) = k.height
bottom_of (k ∷ (j ∷ controls)) = bottom_of (j ∷ controls)

bottom_low : (k : Control) (controls : List Control) (n : ℕ) → AreHeights (k ∷ controls) n
    → bottom_of (k ∷ controls) ≤ n
bottom_low k [] n h = h.0
bottom_low k (j ∷ controls) n h =
    let low : k.height ≤ n = h.0 in
    let rest : bottom_of (j ∷ controls) ≤ k.height = bottom_low j controls k.height h.1 in
    omega arith

-- the operands of all sequences are those above that place
operands_view : (k : Control) (controls : List Control) (operands : List Known)
    → AreHeights (k ∷ controls) (length operands)
    → all_operands (levels_of (k ∷ controls) operands)
    ≡ take (length operands - bottom_of (k ∷ controls)) operands
operands_view k [] operands h = append-nil (take (length operands - k.height) operands)
operands_view k (j ∷ controls) operands h =
    let n = length operands in
    let m = length operands - k.height in
    let b = bottom_of (j ∷ controls) in
    let low : k.height ≤ length operands = h.0 in
    let deep : bottom_of (j ∷ controls) ≤ k.height = bottom_low j controls k.height h.1 in
    let count : length (drop (length operands - k.height) operands) ≡ k.height =
    length-drop (length operands - k.height) operands ∙ omega arith in
    let heights : AreHeights (j ∷ controls) (length
    (drop (length operands - k.height) operands)) =
    subst (λ z. AreHeights (j ∷ controls) z) (sym count) h.1 in
    let sum : m + (k.height - b) ≡ n - b = omega arith in
    ap (λ z. take m operands ++ z) (operands_view j controls (drop m operands) heights)
    ∙ ap (λ z. take m operands ++ take (z - b) (drop m operands)) count
    ∙ sym (take-add m (k.height - b) operands)
    ∙ ap (λ z. take z operands) sum

-- the first items of a list, turned
pub turned_front : {X : Type 0} (items : List X) (n : ℕ)
    → reverse (take n items) ≡ drop (length items - n) (reverse items)
turned_front items n =
    let front = reverse (take n items) in
    let behind = reverse (drop n items) in
    let whole : reverse items ≡ reverse (drop n items) ++ reverse (take n items) =
    ap reverse (sym (take-append-drop n items)) ∙ reverse-append (take n items) (drop n items) in
    let count : length (reverse (drop n items)) ≡ length items - n =
    length-reverse (drop n items) ∙ length-drop n items in
    sym (ap (λ z. drop (length items - n) z) whole
    ∙ ap (λ z. drop z (behind ++ front)) (sym count)
    ∙ drop-append_seam behind front)

-- ---- the outermost sequence

first_on : {X : Type 0} (xs ys : List X) (x : X)
    → slice_get ((xs ++ (x ∷ [])) ++ ys) 0 ≡ slice_get (xs ++ (x ∷ [])) 0
first_on [] ys x = refl
first_on (y ∷ xs) ys x = refl

bottom_at : (controls : List Control) (k : Control) → slice_get (reverse controls) 0 ≡ Some k
    → bottom_of controls ≡ k.height
bottom_at [] k e = absurd (cc)
bottom_at (j ∷ []) k e =
    let same : j ≡ k = cc in ap (λ (z : Control). z.height) same
bottom_at (j ∷ (i ∷ controls)) k e =
    let inner : reverse (i ∷ controls) ≡ reverse controls ++ (i ∷ []) =
    reverse-append (i ∷ []) controls in
    let outer : reverse (j ∷ (i ∷ controls)) ≡ (reverse controls ++ (i ∷ [])) ++ (j ∷ []) =
    reverse-append (j ∷ []) (i ∷ controls) ∙ ap (λ z. z ++ (j ∷ [])) inner in
    bottom_at (i ∷ controls) k
    (ap (λ z. slice_get z 0) inner ∙ sym (first_on (reverse controls) (j ∷ []) i)
    ∙ ap (λ z. slice_get z 0) (sym outer) ∙ e)

-- what is on the stack above that place
pub operands_above : (controls : List Control) (operands : List Known) (k : Control)
    → slice_get (reverse controls) 0 ≡ Some k → AreHeights controls (length operands)
    → (k.height ≤ length operands)
    × (drop k.height (reverse operands) ≡ reverse (all_operands (levels_of controls operands)))
operands_above [] operands k e h = absurd (cc)
operands_above (j ∷ controls) operands k e h =
    let at : bottom_of (j ∷ controls) ≡ k.height = bottom_at (j ∷ controls) k e in
    let low : bottom_of (j ∷ controls) ≤ length operands =
    bottom_low j controls (length operands) h in
    let b = bottom_of (j ∷ controls) in
    let back : length operands - (length operands - b) ≡ k.height = omega arith in (
      omega arith,
      sym (ap reverse (operands_view j controls operands h)
          ∙ turned_front operands (length operands - b)
          ∙ ap (λ z. drop z (reverse operands)) back),
    )

pub none_below : (controls : List Control) (operands : List Known)
    → slice_get (reverse controls) 0 ≡ None → levels_of controls operands ≡ []
none_below [] operands e = refl
none_below (k ∷ controls) operands e = absurd (some_first (reverse controls) e')
  where
    e' : slice_get (reverse controls ++ (k ∷ [])) 0 ≡ None
    e' = ap (λ z. slice_get z 0) (sym (reverse-append (k ∷ []) controls)) ∙ e

    some_first : (xs : List Control) → slice_get (xs ++ (k ∷ [])) 0 ≡ None → ⊥
    some_first [] e = absurd (cc)
    some_first (x ∷ xs) e = absurd (cc)
