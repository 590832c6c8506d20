-- The types of a function's operands at a position of its body.
use Rattle.std.specs.Prelude.{ℕ, List, [], ◌∷◌, ◌++◌, reverse, Option}
use Rattle.std.specs.Option.{option_map}
use Rattle.wasm_syntax.specs.declared.types.ValueType.{ValueType}
use Rattle.wasm_syntax.specs.rules.Sequence.{Sequence}
use Rattle.wasm_rules.specs.Typing.{Context}
use Rattle.wasm_rules.specs.Shapes.{Shape, LabelShape, ShapeOf, body_shape}

-- the types of the values below the labels, the last one first
abbrev pub types_below : List LabelShape → List ValueType
types_below [] = []
types_below (ShapeOf takes target below after which ∷ labels) = below ++ types_below labels

-- the types of all operands of the function, the first one first
abbrev pub types_in : Shape → List ValueType
types_in s = reverse (s.operands ++ types_below s.labels)

-- the same at a position of a body, if typing reaches it
abbrev pub types_at : Context → Sequence → ℕ → Option (List ValueType)
types_at c body p = option_map types_in (body_shape c body p)
