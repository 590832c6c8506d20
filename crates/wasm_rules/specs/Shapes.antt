-- The shape that typing gives to each position of a body that it reaches. It has the labels around
-- it, the types of the operands, and what remains of the innermost sequence. Code after
-- `unreachable`, `br`, `br_table` and `return`, up to the end of its block, is not reached.
use Rattle.std.specs.Prelude.{ℕ, zero, suc, ◌+◌, ◌-◌, nat_le, ◌==◌, List, [], ◌∷◌, ◌++◌, length}
use Rattle.std.specs.Prelude.{drop, Option, Some, None, option_map, slice_get, if◌then◌else◌}
use Rattle.std.specs.Option.{option_and_then}
use Rattle.wasm_syntax.specs.declared.types.ValueType.{ValueType}
use Rattle.wasm_syntax.specs.declared.types.ValueType.TheVariants.{I32, I64}
use Rattle.wasm_syntax.specs.declared.types.GlobalType.{GlobalType}
use Rattle.wasm_syntax.specs.declared.value.Value.{Value}
use Rattle.wasm_syntax.specs.declared.value.Value.TheVariants as value
use Rattle.wasm_syntax.specs.declared.instruction.Instruction.{Instruction}
use Rattle.wasm_syntax.specs.declared.instruction.Instruction.TheVariants as instr
use Rattle.wasm_syntax.specs.rules.Sequence.{Sequence, Stop, Plain, InBlock, InLoop, InIf, InIfElse}
use Rattle.wasm_syntax.specs.rules.Sequence.{spelled}
use Rattle.wasm_rules.specs.Configuration.{Part, Main, Second}
use Rattle.wasm_rules.specs.Types.{conversion_gives, loaded_type, takes_of, gives_of, results_of}
use Rattle.wasm_rules.specs.Typing.{Context}

-- A label: what a branch to it takes, and what is executed then. Then the types of the values below
-- its block, what follows the block, and which part of its instruction this is.
pub data LabelShape : Type 0 where
  ShapeOf : (takes : List ValueType) (target : Sequence) (below : List ValueType) (after : Sequence)
      (which : Part) → LabelShape

-- what typing knows of a position (the product's)
pub record Shape : Type 0 where
  pub labels : List LabelShape
  pub operands : List ValueType
  pub rest : Sequence

-- ---- the types behind an instruction

-- the type of a value
abbrev pub type_of : Value → ValueType
type_of (value.I32 n) = I32
type_of (value.I64 n) = I64

-- the given types in the place of so many
abbrev pub in_place_of : List ValueType → List ValueType → List ValueType → List ValueType
in_place_of takes gives ts = gives ++ drop (length takes) ts

-- the operand types after an instruction, if typing reaches what follows it
abbrev pub types_behind : Context → Instruction → List ValueType → Option (List ValueType)
types_behind c instr.Nop ts = Some ts
types_behind c (instr.BrIf l) ts = Some (drop 1 ts)
types_behind c (instr.Call x) ts =
    option_map (λ f. in_place_of (takes_of f) (gives_of f) ts) (slice_get c.functions x)
types_behind c (instr.CallIndirect x) ts =
    option_map (λ f. in_place_of (takes_of f) (gives_of f) (drop 1 ts)) (slice_get c.types x)
types_behind c instr.Drop ts = Some (drop 1 ts)
types_behind c instr.Select ts = Some (drop 2 ts)
types_behind c (instr.LocalGet x) ts = option_map (λ t. t ∷ ts) (slice_get c.locals x)
types_behind c (instr.LocalSet x) ts = Some (drop 1 ts)
types_behind c (instr.LocalTee x) ts = Some ts
types_behind c (instr.GlobalGet x) ts =
    option_map (λ (g : GlobalType). g.value_type ∷ ts) (slice_get c.globals x)
types_behind c (instr.GlobalSet x) ts = Some (drop 1 ts)
types_behind c (instr.Load o m) ts = Some (loaded_type o ∷ drop 1 ts)
types_behind c (instr.Store o m) ts = Some (drop 2 ts)
types_behind c instr.MemorySize ts = Some (I32 ∷ ts)
types_behind c instr.MemoryGrow ts = Some ts
types_behind c instr.MemoryCopy ts = Some (drop 3 ts)
types_behind c instr.MemoryFill ts = Some (drop 3 ts)
types_behind c (instr.Const v) ts = Some (type_of v ∷ ts)
types_behind c (instr.Eqz t) ts = Some (I32 ∷ drop 1 ts)
types_behind c (instr.Compare t o) ts = Some (I32 ∷ drop 2 ts)
types_behind c (instr.Unary t o) ts = Some ts
types_behind c (instr.Binary t o) ts = Some (drop 1 ts)
types_behind c (instr.Convert o) ts = Some (conversion_gives o ∷ drop 1 ts)
types_behind c _ ts = None

-- ---- shapes

-- the shape at the opcode with this number of a sequence, the end that closes it included
abbrev pub shape_at : Context → List LabelShape → Sequence → List ValueType → ℕ → Option Shape
shape_at c labels rest ts zero = Some (record { labels = labels; operands = ts; rest = rest })
shape_at c labels Stop ts (suc n) = None
shape_at c labels (Plain i rest) ts (suc n) =
    option_and_then (λ us. shape_at c labels rest us n) (types_behind c i ts)
shape_at c labels (InBlock t body rest) ts (suc n) =
    if nat_le n (length (spelled body))
    then shape_at c (ShapeOf (results_of t) rest ts rest Main ∷ labels) body [] n
    else shape_at c labels rest (results_of t ++ ts) (n - (length (spelled body) + 1))
shape_at c labels (InLoop t body rest) ts (suc n) =
    if nat_le n (length (spelled body))
    then shape_at c (ShapeOf [] (InLoop t body rest) ts rest Main ∷ labels) body [] n
    else shape_at c labels rest (results_of t ++ ts) (n - (length (spelled body) + 1))
shape_at c labels (InIf t first rest) ts (suc n) =
    if nat_le n (length (spelled first))
    then shape_at c (ShapeOf (results_of t) rest (drop 1 ts) rest Main ∷ labels) first [] n
    else shape_at c labels rest (results_of t ++ drop 1 ts) (n - (length (spelled first) + 1))
shape_at c labels (InIfElse t first second rest) ts (suc n) =
    if nat_le n (length (spelled first))
    then shape_at c (ShapeOf (results_of t) rest (drop 1 ts) rest Main ∷ labels) first [] n
    else if nat_le (n - (length (spelled first) + 1)) (length (spelled second))
    then shape_at c (ShapeOf (results_of t) rest (drop 1 ts) rest Second ∷ labels) second [] (n
    - (length (spelled first) + 1))
    else shape_at c labels rest (results_of t ++ drop 1 ts) (n - (length (spelled first) + 1)
    - (length (spelled second) + 1))

-- The shape at a position of a function's body. Behind its last end, where a branch out of the
-- whole body leads, are the results.
abbrev pub body_shape : Context → Sequence → ℕ → Option Shape
body_shape c body p =
    if nat_le p (length (spelled body))
    then shape_at c (ShapeOf c.returns Stop [] Stop Main ∷ []) body [] p
    else if p == length (spelled body) + 1 then Some (record {
      labels = [];
      operands = c.returns;
      rest = Stop;
    })
    else None
