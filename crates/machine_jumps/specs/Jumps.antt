-- Where execution goes on after a jump, in terms of the shapes that typing gives to the positions
-- of a body.
use Rattle.std.specs.Prelude.{◌≡◌, ℕ, zero, suc, ◌+◌, List, [], ◌∷◌, ◌++◌, length, Some}
use Rattle.wasm_syntax.specs.declared.types.ValueType.{ValueType}
use Rattle.wasm_syntax.specs.rules.Sequence.{Sequence}
use Rattle.wasm_rules.specs.Typing.{Context}
use Rattle.wasm_rules.specs.Shapes.{LabelShape, ShapeOf, body_shape}
use Rattle.wasm_rules.specs.laws.Laws.{labels_height}
use Rattle.machine_jumps.specs.declared.jump.Jump.{Jump}

-- At this position of the body typing has these labels and operands, and `rest` remains.
abbrev pub HasShape : Context → Sequence → ℕ → List LabelShape → List ValueType → Sequence → Type 0
HasShape c body p labels operands rest =
    body_shape c body p ≡ Some (record { labels = labels; operands = operands; rest = rest })

-- The jump keeps values of these types, which fall on those of the types `below`, above the values
-- of the labels `outer`. There `target` remains to be executed.
pub record JumpsTo (c : Context) (body : Sequence) (kept below : List ValueType)
    (outer : List LabelShape) (target : Sequence) (jump : Jump) : Type 0 where
  pub keeps : jump.keeps ≡ length kept
  pub height : jump.height ≡ length below + labels_height outer
  pub reached : HasShape c body jump.to outer (kept ++ below) target

-- The jump is a branch to the label with this number, the innermost being 0. The last label is the
-- function's own: after the last end are its results.
abbrev pub IsJump : Context → Sequence → List LabelShape → ℕ → Jump → Type 0
IsJump c body [] l jump = ⊥
IsJump c body (ShapeOf takes target below after which ∷ outer) zero jump =
    JumpsTo c body takes below outer target jump
IsJump c body (label ∷ outer) (suc l) jump = IsJump c body outer l jump

-- The jump leaves the innermost sequence, whose values are of the types ts, as its end does.
abbrev pub IsExit : Context → Sequence → List LabelShape → List ValueType → Jump → Type 0
IsExit c body [] ts jump = ⊥
IsExit c body (ShapeOf takes target below after which ∷ outer) ts jump =
    JumpsTo c body ts below outer after jump
