-- How many labels and values there are where their shapes and types are known.
use Rattle.std.proofs.Common.{◌≡◌, suc, List, [], ◌∷◌, length, refl, ap, arith, length-append}
use Rattle.wasm_rules.specs.Configuration.{Label, LabelOf}
use Rattle.wasm_rules.specs.Shapes.{LabelShape, ShapeOf}
use Rattle.wasm_rules.specs.laws.Laws.{labels_height}
use Rattle.machine_slots.specs.rules.Places.{HaveShape, all_below}
use Rattle.machine_frame.proofs.Threads.Words.{values_count}

pub labels_count : (shapes : List LabelShape) (labels : List Label) → HaveShape shapes labels
    → length labels ≡ length shapes
labels_count [] [] h = refl
labels_count [] (label ∷ labels) h = absurd h
labels_count (ShapeOf takes target types after which ∷ shapes) [] h = absurd h
labels_count (ShapeOf takes target types after which
    ∷ shapes) (LabelOf keeps target' below after' which'
    ∷ labels) h = ap suc (labels_count shapes labels h.5)

pub below_count : (shapes : List LabelShape) (labels : List Label) → HaveShape shapes labels
    → length (all_below labels) ≡ labels_height shapes
below_count [] [] h = refl
below_count [] (label ∷ labels) h = absurd h
below_count (ShapeOf takes target types after which ∷ shapes) [] h = absurd h
below_count (ShapeOf takes target types after which
    ∷ shapes) (LabelOf keeps target' below after' which' ∷ labels) h =
    omega (
      arith,
      values_count types below h.2,
      below_count shapes labels h.5,
      length-append below (all_below labels),
    )
