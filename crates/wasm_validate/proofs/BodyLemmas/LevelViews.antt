-- Open sequences, seen on one stack of operands.
use Rattle.std.proofs.Common.{◌≡◌, ℕ, suc, ◌-◌, ◌<◌, ◌≤◌, Bool, true, false, List, [], ◌∷◌, length}
use Rattle.std.proofs.Common.{take, drop, Option, Some, None, refl, sym, ap, ◌∙◌, subst, arith}
use Rattle.std.proofs.Common.{length-drop}
use Rattle.std.specs.Prelude.{not, slice_get, map}
use Rattle.std.specs.Option.{option_map}
use Rattle.std.proofs.lemmas.Option.{slice_get-map}
use Rattle.wasm_syntax.specs.declared.types.ValueType.{ValueType}
use Rattle.wasm_syntax.specs.laws.ReadingItems.{◌>>=◌, check}
use Rattle.wasm_rules.specs.Types.{results_of}
use Rattle.wasm_validate.specs.declared.body.levels.Control.{Control}
use Rattle.wasm_validate.specs.laws.Checking.{Known, Level, labels_of, has_no_operands}
use Rattle.wasm_validate.specs.Body.Tops.{top_popped, top_pushed, top_unreached, top_closed}
use Rattle.wasm_validate.specs.Body.Views.{level_of, levels_of, AreHeights, IsInnermost}

-- the operands of the innermost sequence, and those below
abbrev own : Control → List Known → List Known
own k operands = take (length operands - k.height) operands

take_more : (n m : ℕ) (x : Known) (xs : List Known) → n ≡ suc m → take n (x ∷ xs) ≡ x ∷ take m xs
take_more n m x xs e = rw e refl

drop_more : (n m : ℕ) (x : Known) (xs : List Known) → n ≡ suc m → drop n (x ∷ xs) ≡ drop m xs
drop_more n m x xs e = rw e refl

above : (k : Control) (x : Known) (xs : List Known) → k.height ≤ length xs
    → length (x ∷ xs) - k.height ≡ suc (length xs - k.height)
above k x xs h = omega arith

pub pushed_view : (x : Known) (controls : List Control) (operands : List Known)
    → AreHeights controls (length operands)
    → levels_of controls (x ∷ operands) ≡ top_pushed x (levels_of controls operands)
pushed_view x [] operands h = refl
pushed_view x (k ∷ controls) operands h =
    let e = above k x operands h.0 in
    rw (
      take_more (length (x ∷ operands) - k.height) (length operands - k.height) x operands e,
      drop_more (length (x ∷ operands) - k.height) (length operands - k.height) x operands e,
    ) refl

pub higher : (controls : List Control) (m n : ℕ) → AreHeights controls m → m ≤ n
    → AreHeights controls n
higher [] m n h e = tt
higher (k ∷ controls) m n h e = let low : k.height ≤ m = h.0 in (omega arith, h.1)

pub popped_view : (k : Control) (controls : List Control) (x : Known) (operands : List Known)
    → k.height ≤ length operands → top_popped (levels_of (k ∷ controls) (x ∷ operands))
    ≡ Some (x, levels_of (k ∷ controls) operands)
popped_view k controls x operands h =
    let e = above k x operands h in
    rw (
      take_more (length (x ∷ operands) - k.height) (length operands - k.height) x operands e,
      drop_more (length (x ∷ operands) - k.height) (length operands - k.height) x operands e,
    ) refl

-- at its height a sequence has no operands
pub bottom_view : (k : Control) (controls : List Control) (operands : List Known)
    → length operands ≡ k.height
    → levels_of (k ∷ controls) operands ≡ level_of k [] ∷ levels_of controls operands
bottom_view k controls operands e = let z : length operands - k.height ≡ 0 = omega arith in
    rw z refl

abbrev at_level : Control → Bool → Level
at_level k reached = record {
  takes = k.label;
  gives = k.results;
  is_first = k.is_first;
  is_reached = reached;
  operands = [];
}

by_reach : (k : Control) (levels : List Level) (b : Bool) → k.is_reached ≡ b
    → top_popped (level_of k [] ∷ levels) ≡ (check (not b)
    >>= λ _. Some (None, level_of k [] ∷ levels))
by_reach k levels b r =
    subst (λ z. top_popped (at_level k z ∷ levels) ≡ (check (not b)
    >>= λ _. Some (None, at_level k z ∷ levels))) (sym r) (on b)
  where
    on : (b : Bool) → top_popped (at_level k b ∷ levels) ≡ (check (not b)
        >>= λ _. Some (None, at_level k b ∷ levels))
    on true = refl
    on false = refl

pub bottom_popped : (k : Control) (controls : List Control) (operands : List Known) (b : Bool)
    → length operands ≡ k.height → k.is_reached ≡ b
    → top_popped (levels_of (k ∷ controls) operands) ≡ (check (not b)
    >>= λ _. Some (None, level_of k [] ∷ levels_of controls operands))
bottom_popped k controls operands b e r =
    ap top_popped (bottom_view k controls operands e) ∙ by_reach k (levels_of controls operands) b r

pub at_top : {X : Type 0} (xs : List X) (x : X) → slice_get xs 0 ≡ Some x → (rest : List X)
    × (xs ≡ x ∷ rest)
at_top [] x e = absurd (cc)
at_top (y ∷ rest) x e = let same : y ≡ x = cc in (rest, cc)

pub none_popped : (controls : List Control) (operands : List Known) → slice_get controls 0 ≡ None
    → top_popped (levels_of controls operands) ≡ None
none_popped [] operands e = refl
none_popped (k ∷ controls) operands e = absurd (cc)

-- an operand above the height of the innermost sequence is its topmost one
pub pop_above : (controls : List Control) (operands new : List Known) (k : Control)
    (o : Option Known) → slice_get controls 0 ≡ Some k → k.height < length operands
    → o ≡ slice_get operands 0 → new ≡ drop 1 operands
    → AreHeights controls (length operands)
    → (x : Known) × (o ≡ Some x)
    × (top_popped (levels_of controls operands) ≡ Some (x, levels_of controls new))
    × AreHeights controls (length new)
pop_above controls [] new k o at h top rest heights = absurd (omega arith)
pop_above controls (x ∷ operands) new k o at h top rest heights =
    let first = at_top controls k at in
    let low : k.height ≤ length operands = omega arith in
    let heights' : AreHeights (k ∷ first.0) (length (x ∷ operands)) =
    subst (λ z. AreHeights z (length (x ∷ operands))) first.1 heights in (
      x,
      top,
      subst (λ z. top_popped (levels_of controls (x ∷ operands))
          ≡ Some (x, levels_of controls z)) (sym rest)
          (subst (λ z. top_popped (levels_of z (x ∷ operands))
          ≡ Some (x, levels_of z operands)) (sym first.1)
          (popped_view k first.0 x operands low)),
      subst (λ z. AreHeights controls (length z)) (sym rest)
          (subst (λ z. AreHeights z (length operands)) (sym first.1) (low, heights'.1)),
    )

-- at its height it has none
pub pop_bottom : (controls : List Control) (operands : List Known) (k : Control) (b : Bool)
    → slice_get controls 0 ≡ Some k → length operands ≤ k.height → k.is_reached ≡ b
    → AreHeights controls (length operands)
    → top_popped (levels_of controls operands) ≡ (check (not b)
    >>= λ _. Some (None, levels_of controls operands))
pop_bottom controls operands k b at h r heights =
    let top = at_top controls k at in
    let heights' : AreHeights (k ∷ top.0) (length operands) =
    subst (λ z. AreHeights z (length operands)) top.1 heights in
    let low : k.height ≤ length operands = heights'.0 in
    let same : length operands ≡ k.height = omega arith in
    let view = bottom_view k top.0 operands same in
    subst (λ z. top_popped (levels_of z operands) ≡ (check (not b)
    >>= λ _. Some (None, levels_of z operands))) (sym top.1)
    (subst (λ z. top_popped (levels_of (k ∷ top.0) operands) ≡ (check (not b)
    >>= λ _. Some (None, z))) (sym view) (bottom_popped k top.0 operands b same r))

-- ---- the innermost sequence

pub innermost_is : (o : Option Control) (controls : List Control) (operands : List Known)
    → o ≡ slice_get controls 0 → IsInnermost o (levels_of controls operands)
innermost_is None [] operands e = refl
innermost_is None (k ∷ controls) operands e = absurd (cc)
innermost_is (Some j) [] operands e = absurd (cc)
innermost_is (Some j) (k ∷ controls) operands e =
    let same : j ≡ k = cc in (
      own k operands,
      levels_of controls (drop (length operands - k.height) operands),
      ap (λ z. level_of z (own k operands)
          ∷ levels_of controls (drop (length operands - k.height) operands)) (sym same),
    )

abbrev pub label_of_control : Control → List ValueType
label_of_control k = results_of k.label

labels_are : (controls : List Control) (operands : List Known)
    → labels_of (levels_of controls operands) ≡ map label_of_control controls
labels_are [] operands = refl
labels_are (k ∷ controls) operands =
    ap (λ z. results_of k.label
    ∷ z) (labels_are controls (drop (length operands - k.height) operands))

pub label_at : (controls : List Control) (operands : List Known) (l : ℕ)
    → slice_get (labels_of (levels_of controls operands)) l
    ≡ option_map label_of_control (slice_get controls l)
label_at controls operands l = ap (λ z. slice_get z l) (labels_are controls operands)
    ∙ slice_get-map label_of_control controls l

pub top_none : (controls : List Control) (operands : List Known) → slice_get controls 0 ≡ None
    → levels_of controls operands ≡ []
top_none [] operands e = refl
top_none (k ∷ controls) operands e = absurd (cc)

-- a sequence with operands can't be closed
pub not_closed : (controls : List Control) (operands : List Known) (k : Control)
    → slice_get controls 0 ≡ Some k → k.height < length operands
    → top_closed (levels_of controls operands) ≡ None
not_closed [] operands k e h = absurd (cc)
not_closed (j ∷ controls) [] k e h = absurd (omega arith)
not_closed (j ∷ controls) (x ∷ operands) k e h =
    let same : j ≡ k = cc in
    let low : k.height ≤ length operands = omega arith in
    let more = take_more (length (x ∷ operands) - k.height) (length operands - k.height) x operands
    (above k x operands low) in
    subst (λ z. top_closed (levels_of (z ∷ controls) (x ∷ operands))
    ≡ None) (sym same) (ap (λ z. check (has_no_operands z)
    >>= λ _. Some (levels_of controls (drop (length (x ∷ operands) - k.height) (x ∷ operands))))
    more)

pub closed_view : (controls new : List Control) (operands : List Known) (k : Control)
    → slice_get controls 0 ≡ Some k → new ≡ drop 1 controls → length operands ≤ k.height
    → AreHeights controls (length operands)
    → (top_closed (levels_of controls operands) ≡ Some (levels_of new operands))
    × AreHeights new (length operands)
closed_view [] new operands k e rest h heights = absurd (cc)
closed_view (j ∷ controls) new operands k e rest h heights =
    let same : j ≡ k = cc in
    let low : j.height ≤ length operands = heights.0 in
    let high : length operands ≤ j.height =
    subst (λ (z : Control). length operands ≤ z.height) (sym same) h in
    let at : length operands ≡ j.height = omega arith in (
      ap top_closed (bottom_view j controls operands at)
          ∙ ap (λ z. Some (levels_of z operands)) (sym rest),
      subst (λ z. AreHeights z (length operands)) (sym rest)
          (higher controls j.height (length operands) heights.1 low),
    )

-- ---- behind a jump

kept_view : (k : Control) (controls : List Control) (operands : List Known)
    → k.height ≤ length operands
    → levels_of (k ∷ controls) (drop (length operands - k.height) operands)
    ≡ level_of k [] ∷ levels_of controls (drop (length operands - k.height) operands)
kept_view k controls operands h =
    let count : length (drop (length operands - k.height) operands)
    ≡ length operands - (length operands - k.height) = length-drop (length operands
    - k.height) operands in
    bottom_view k controls (drop (length operands - k.height) operands) (omega arith)

pub unreached_view : (controls : List Control) (operands : List Known) (k : Control)
    → slice_get controls 0 ≡ Some k → AreHeights controls (length operands)
    → (levels_of (record k { is_reached = false }
    ∷ drop 1 controls) (drop (length operands - k.height) operands)
    ≡ top_unreached (levels_of controls operands))
    × AreHeights (record k { is_reached = false }
    ∷ drop 1 controls) (length (drop (length operands - k.height) operands))
unreached_view [] operands k e heights = absurd (cc)
unreached_view (j ∷ controls) operands k e heights =
    let same : j ≡ k = cc in
    let low : k.height ≤ length operands =
    subst (λ (z : Control). z.height ≤ length operands) same heights.0 in
    let behind : Control = record k { is_reached = false } in
    let count : length (drop (length operands - k.height) operands)
    ≡ length operands - (length operands - k.height) = length-drop (length operands
    - k.height) operands in
    let high : k.height ≤ length (drop (length operands - k.height) operands) = omega arith in (
      kept_view behind controls operands low
          ∙ ap (λ (z : Control). level_of behind []
          ∷ levels_of controls (drop (length operands - z.height) operands)) (sym same)
          ∙ ap (λ (z : Control). level_of (record z { is_reached = false }) []
          ∷ levels_of controls (drop (length operands - j.height) operands)) (sym same),
      (high, subst (λ (z : Control). AreHeights controls z.height) same heights.1),
    )
