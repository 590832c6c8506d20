-- What checking from the front knows at a position of a body. Nothing here has to be believed:
-- that it is what typing gives to the position is proved.
use Rattle.std.specs.Prelude.{◌≡◌, ◌≤◌, ℕ, Bool, true, false, ◌&&◌, List, [], ◌∷◌, ◌++◌, length}
use Rattle.std.specs.Prelude.{map, take, Option, Some, None}
use Rattle.wasm_syntax.specs.declared.types.ValueType.{ValueType}
use Rattle.wasm_syntax.specs.declared.instruction.Instruction.{Instruction}
use Rattle.wasm_syntax.specs.rules.Sequence.{Sequence, spelled, IsNested}
use Rattle.wasm_rules.specs.Types.{results_of}
use Rattle.wasm_rules.specs.Typing.{Context, HasType}
use Rattle.wasm_rules.specs.Shapes.{Shape, body_shape}
use Rattle.wasm_validate.specs.rules.Operands.{types_below}
use Rattle.wasm_validate.specs.laws.Checking.{Known, Level, new_level, checked}

-- a jump is before in none of the open sequences
abbrev pub are_reached : List Level → Bool
are_reached [] = true
are_reached (l ∷ levels) = l.is_reached && are_reached levels

-- the operands of all open sequences, the last one first
abbrev pub all_operands : List Level → List Known
all_operands [] = []
all_operands (l ∷ levels) = l.operands ++ all_operands levels

-- the open sequences have operands of this shape's types; or a jump is before, where there is
-- no shape
abbrev pub LevelsStandFor : List Level → Option Shape → Type 0
LevelsStandFor levels None = are_reached levels ≡ false
LevelsStandFor levels (Some s) =
    (are_reached levels ≡ true)
    × (all_operands levels ≡ map (λ t. Some t) (s.operands ++ types_below s.labels))

-- So many of the opcodes pass the check from these levels on. They lead to levels that stand for
-- this shape.
pub record PassesTo (c : Context) (opcodes : List Instruction) (n : ℕ) (levels : List Level)
    (o : Option Shape) : Type 0 where
  pub new : List Level
  pub is : checked c (take n opcodes) levels ≡ Some new
  pub stands : LevelsStandFor new o

-- Checking a typed body comes at each of its positions to what typing gives there.
abbrev pub CheckingFindsShapes : Type 0
CheckingFindsShapes =
    (c : Context) (body : Sequence) (r : Option ValueType) (p : ℕ) → IsNested body
    → HasType c (c.returns ∷ []) body [] c.returns → results_of r ≡ c.returns
    → p ≤ length (spelled body)
    → PassesTo c (spelled body) p (new_level r r false ∷ []) (body_shape c body p)
