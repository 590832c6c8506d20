-- That the shapes of a typed body are typed: what remains at a position has a type, and so have the
-- labels around it.
use Rattle.std.specs.Prelude.{◌≡◌, ℕ, List, [], ◌∷◌, ◌++◌, Some}
use Rattle.wasm_syntax.specs.declared.types.ValueType.{ValueType}
use Rattle.wasm_syntax.specs.rules.Sequence.{Sequence}
use Rattle.wasm_rules.specs.Typing.{Context, HasType}
use Rattle.wasm_rules.specs.Shapes.{LabelShape, ShapeOf, Shape, body_shape}

-- the labels around a sequence that leaves `out` lead to the end of the function
abbrev pub AreTypedShapes : Context → List (List ValueType) → List LabelShape → List ValueType
    → Type 0
AreTypedShapes c [] [] out = out ≡ c.returns
AreTypedShapes c (ts ∷ tss) (ShapeOf takes target below after which ∷ labels) out =
    (end : List ValueType) × (takes ≡ ts) × HasType c tss after (out ++ below) end
    × HasType c tss target (ts ++ below) end × AreTypedShapes c tss labels end
AreTypedShapes c [] (label ∷ labels) out = ⊥
AreTypedShapes c (ts ∷ tss) [] out = ⊥

-- a shape that is typed, with its labels
pub record IsTypedShape (c : Context) (s : Shape) : Type 0 where
  pub branches : List (List ValueType)
  pub out : List ValueType
  pub typed_rest : HasType c branches s.rest s.operands out
  pub typed_labels : AreTypedShapes c branches s.labels out

-- In a typed body the shape at each position that typing reaches is typed.
abbrev pub ReachedShapesAreTyped : Type 0
ReachedShapesAreTyped =
    (c : Context) (body : Sequence) (p : ℕ) (s : Shape)
    → HasType c (c.returns ∷ []) body [] c.returns → body_shape c body p ≡ Some s
    → IsTypedShape c s
