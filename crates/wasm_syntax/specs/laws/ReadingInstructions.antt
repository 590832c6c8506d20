-- Reading from the front: instructions and expressions (Core Specification 1.0, section 5.4).
use Rattle.std.specs.Prelude.{ℕ, zero, suc, ◌-◌, ◌==◌, ◌&&◌, nat_le, nat_lt, if◌then◌else◌, Bool}
use Rattle.std.specs.Prelude.{List, [], ◌∷◌, length, Option, Some, None, option_map, slice_get}
use Rattle.wasm_syntax.specs.declared.types.ValueType.TheVariants.{I32, I64}
use Rattle.wasm_syntax.specs.declared.value.Value.TheVariants as value
use Rattle.wasm_syntax.specs.declared.operator.UnaryOperator.{UnaryOperator}
use Rattle.wasm_syntax.specs.declared.operator.UnaryOperator.TheVariants.{Clz, Ctz, Popcnt}
use Rattle.wasm_syntax.specs.declared.operator.BinaryOperator.{BinaryOperator}
use Rattle.wasm_syntax.specs.declared.operator.BinaryOperator.TheVariants.{Add, Sub, Mul, DivS}
use Rattle.wasm_syntax.specs.declared.operator.BinaryOperator.TheVariants.{DivU, RemS, RemU, And}
use Rattle.wasm_syntax.specs.declared.operator.BinaryOperator.TheVariants.{Or, Xor, Shl, ShrS, ShrU}
use Rattle.wasm_syntax.specs.declared.operator.BinaryOperator.TheVariants.{Rotl, Rotr}
use Rattle.wasm_syntax.specs.declared.operator.Comparison.{Comparison}
use Rattle.wasm_syntax.specs.declared.operator.Comparison.TheVariants.{Eq, Ne, LtS, LtU, GtS, GtU}
use Rattle.wasm_syntax.specs.declared.operator.Comparison.TheVariants.{LeS, LeU, GeS, GeU}
use Rattle.wasm_syntax.specs.declared.operator.Conversion.TheVariants.{I32WrapI64, I64ExtendI32S}
use Rattle.wasm_syntax.specs.declared.operator.Conversion.TheVariants.{I64ExtendI32U, I32Extend8S}
use Rattle.wasm_syntax.specs.declared.operator.Conversion.TheVariants.{I32Extend16S, I64Extend8S}
use Rattle.wasm_syntax.specs.declared.operator.Conversion.TheVariants.{I64Extend16S, I64Extend32S}
use Rattle.wasm_syntax.specs.declared.operator.LoadOperator.{LoadOperator}
use Rattle.wasm_syntax.specs.declared.operator.LoadOperator.TheVariants as load
use Rattle.wasm_syntax.specs.declared.operator.StoreOperator.{StoreOperator}
use Rattle.wasm_syntax.specs.declared.operator.StoreOperator.TheVariants as store
use Rattle.wasm_syntax.specs.declared.instruction.MemoryArgument.{MemoryArgument}
use Rattle.wasm_syntax.specs.declared.instruction.Instruction.{Instruction}
use Rattle.wasm_syntax.specs.declared.instruction.Instruction.TheVariants as instr
use Rattle.wasm_syntax.specs.declared.opener.Opener.{Opener}
use Rattle.wasm_syntax.specs.declared.opener.Opener.TheVariants.{Unconditional, Conditional}
use Rattle.wasm_syntax.specs.laws.ReadingItems.{◌>>=◌, read_as, byte_at, exactly_at, leb_u32_at}
use Rattle.wasm_syntax.specs.laws.ReadingItems.{signed_at, vector_at, block_type_at}

-- ---- operators, in the order of their opcodes

abbrev pub narrow_loads : List LoadOperator
narrow_loads = load.I32Bits8S ∷ load.I32Bits8U ∷ load.I32Bits16S ∷ load.I32Bits16U ∷ load.I64Bits8S
    ∷ load.I64Bits8U ∷ load.I64Bits16S ∷ load.I64Bits16U ∷ load.I64Bits32S ∷ load.I64Bits32U ∷ []

abbrev pub narrow_stores : List StoreOperator
narrow_stores =
    store.I32Bits8 ∷ store.I32Bits16 ∷ store.I64Bits8 ∷ store.I64Bits16 ∷ store.I64Bits32 ∷ []

abbrev pub comparisons : List Comparison
comparisons = Eq ∷ Ne ∷ LtS ∷ LtU ∷ GtS ∷ GtU ∷ LeS ∷ LeU ∷ GeS ∷ GeU ∷ []

abbrev pub unary_operators : List UnaryOperator
unary_operators = Clz ∷ Ctz ∷ Popcnt ∷ []

abbrev pub binary_operators : List BinaryOperator
binary_operators = Add ∷ Sub ∷ Mul ∷ DivS ∷ DivU ∷ RemS ∷ RemU ∷ And ∷ Or ∷ Xor ∷ Shl ∷ ShrS ∷ ShrU
    ∷ Rotl ∷ Rotr ∷ []

abbrev pub is_between : ℕ → ℕ → ℕ → Bool
is_between low high b = nat_le low b && nat_le b high

abbrev pub load_of : ℕ → Option LoadOperator
load_of b =
    if b == 0x28 then Some load.I32
    else if b == 0x29 then Some load.I64
    else if is_between 0x2c 0x35 b then slice_get narrow_loads (b - 0x2c)
    else None

abbrev pub store_operator_of : ℕ → Option StoreOperator
store_operator_of b =
    if b == 0x36 then Some store.I32
    else if b == 0x37 then Some store.I64
    else if is_between 0x3a 0x3e b then slice_get narrow_stores (b - 0x3a)
    else None

-- tests and comparisons
abbrev pub comparison_of : ℕ → Option Instruction
comparison_of b =
    if b == 0x45 then Some (instr.Eqz I32)
    else if is_between 0x46 0x4f b
    then option_map (instr.Compare I32) (slice_get comparisons (b - 0x46))
    else if b == 0x50 then Some (instr.Eqz I64)
    else if is_between 0x51 0x5a b
    then option_map (instr.Compare I64) (slice_get comparisons (b - 0x51))
    else None

-- operators from one type to the same, and conversions
abbrev pub operation_of : ℕ → Option Instruction
operation_of b =
    if is_between 0x67 0x69 b
    then option_map (instr.Unary I32) (slice_get unary_operators (b - 0x67))
    else if is_between 0x6a 0x78 b
    then option_map (instr.Binary I32) (slice_get binary_operators (b - 0x6a))
    else if is_between 0x79 0x7b b
    then option_map (instr.Unary I64) (slice_get unary_operators (b - 0x79))
    else if is_between 0x7c 0x8a b
    then option_map (instr.Binary I64) (slice_get binary_operators (b - 0x7c))
    else if b == 0xa7 then Some (instr.Convert I32WrapI64)
    else if b == 0xac then Some (instr.Convert I64ExtendI32S)
    else if b == 0xad then Some (instr.Convert I64ExtendI32U)
    else if b == 0xc0 then Some (instr.Convert I32Extend8S)
    else if b == 0xc1 then Some (instr.Convert I32Extend16S)
    else if b == 0xc2 then Some (instr.Convert I64Extend8S)
    else if b == 0xc3 then Some (instr.Convert I64Extend16S)
    else if b == 0xc4 then Some (instr.Convert I64Extend32S)
    else None

-- ---- instructions, by their opcode

-- blocks, branches and calls: opcodes below 0x1a
abbrev pub control_at : ℕ → List ℕ → Option (Instruction × List ℕ)
control_at b rest =
    if b == 0x00 then Some (instr.Unreachable, rest)
    else if b == 0x01 then Some (instr.Nop, rest)
    else if b == 0x02 then read_as instr.Block block_type_at rest
    else if b == 0x03 then read_as instr.Loop block_type_at rest
    else if b == 0x04 then read_as instr.If block_type_at rest
    else if b == 0x05 then Some (instr.Else, rest)
    else if b == 0x0b then Some (instr.End, rest)
    else if b == 0x0c then read_as instr.Br leb_u32_at rest
    else if b == 0x0d then read_as instr.BrIf leb_u32_at rest
    else if b == 0x0e then (vector_at leb_u32_at rest >>= λ labels. leb_u32_at labels.1
    >>= λ last. Some (instr.BrTable labels.0 last.0, last.1))
    else if b == 0x0f then Some (instr.Return, rest)
    else if b == 0x10 then read_as instr.Call leb_u32_at rest
    else if b == 0x11 then (leb_u32_at rest >>= λ t. exactly_at 0x00 t.1
    >>= λ mark. Some (instr.CallIndirect t.0, mark.1))
    else None

-- operands, locals and globals: opcodes from 0x1a to 0x24
abbrev pub variable_at : ℕ → List ℕ → Option (Instruction × List ℕ)
variable_at b rest =
    if b == 0x1a then Some (instr.Drop, rest)
    else if b == 0x1b then Some (instr.Select, rest)
    else if b == 0x20 then read_as instr.LocalGet leb_u32_at rest
    else if b == 0x21 then read_as instr.LocalSet leb_u32_at rest
    else if b == 0x22 then read_as instr.LocalTee leb_u32_at rest
    else if b == 0x23 then read_as instr.GlobalGet leb_u32_at rest
    else if b == 0x24 then read_as instr.GlobalSet leb_u32_at rest
    else None

unfoldable pub memory_argument_at : List ℕ → Option (MemoryArgument × List ℕ)
memory_argument_at bytes =
    leb_u32_at bytes >>= λ align. leb_u32_at align.1 >>= λ offset. Some (
      record {
        align = align.0;
        offset = offset.0;
      },
      offset.1,
    )

-- loads, stores and the memory's size: opcodes from 0x28 to 0x40
abbrev pub memory_at : ℕ → List ℕ → Option (Instruction × List ℕ)
memory_at b rest =
    if b == 0x3f then read_as (λ (mark : Unit {0}). instr.MemorySize) (exactly_at 0x00) rest
    else if b == 0x40 then read_as (λ (mark : Unit {0}). instr.MemoryGrow) (exactly_at 0x00) rest
    else if nat_lt b 0x36
    then (load_of b >>= λ operator. read_as (instr.Load operator) memory_argument_at rest)
    else (store_operator_of b
    >>= λ operator. read_as (instr.Store operator) memory_argument_at rest)

-- constants, tests, comparisons, operators and conversions: opcodes from 0x41 on, but the prefix
abbrev pub numeric_at : ℕ → List ℕ → Option (Instruction × List ℕ)
numeric_at b rest =
    if b == 0x41 then read_as (λ (n : ℕ). instr.Const (value.I32 n)) (signed_at 32) rest
    else if b == 0x42 then read_as (λ (n : ℕ). instr.Const (value.I64 n)) (signed_at 64) rest
    else if nat_lt b 0x67 then (comparison_of b >>= λ i. Some (i, rest))
    else (operation_of b >>= λ i. Some (i, rest))

-- two zero bytes, the indices of the memories that are copied to and from
abbrev pub copy_at : List ℕ → Option (Instruction × List ℕ)
copy_at rest = exactly_at 0x00 rest
    >>= λ to. read_as (λ (mark : Unit {0}). instr.MemoryCopy) (exactly_at 0x00) to.1

-- the number after the prefix 0xfc, and its instruction
abbrev pub prefixed_by : ℕ → List ℕ → Option (Instruction × List ℕ)
prefixed_by n rest =
    if n == 10 then copy_at rest
    else if n == 11 then read_as (λ (mark : Unit {0}). instr.MemoryFill) (exactly_at 0x00) rest
    else None

unfoldable pub prefixed_at : List ℕ → Option (Instruction × List ℕ)
prefixed_at rest = leb_u32_at rest >>= λ n. prefixed_by n.0 n.1

-- opcodes from 0x41 on
unfoldable pub higher_at : ℕ → List ℕ → Option (Instruction × List ℕ)
higher_at b rest = if b == 0xfc then prefixed_at rest else numeric_at b rest

-- what is after an opcode. The opcodes of floats stand for nothing
unfoldable pub behind_opcode : ℕ → List ℕ → Option (Instruction × List ℕ)
behind_opcode b rest =
    if nat_lt b 0x1a then control_at b rest
    else if nat_lt b 0x28 then variable_at b rest
    else if nat_lt b 0x41 then memory_at b rest
    else higher_at b rest

unfoldable pub instruction_at : List ℕ → Option (Instruction × List ℕ)
instruction_at bytes = byte_at bytes >>= λ b. behind_opcode b.0 b.1

-- ---- expressions

-- what is open after an instruction, or that it closes the expression, or that it can't be there
pub data Nesting : Type 0 where
  Open : (openers : List Opener) → Nesting
  Closed : Nesting
  Misplaced : Nesting

-- after an instruction where these blocks are open, the innermost first
abbrev pub nesting_after : Instruction → List Opener → Nesting
nesting_after (instr.Block t) openers = Open (Unconditional ∷ openers)
nesting_after (instr.Loop t) openers = Open (Unconditional ∷ openers)
nesting_after (instr.If t) openers = Open (Conditional ∷ openers)
nesting_after instr.Else (Conditional ∷ openers) = Open (Unconditional ∷ openers)
nesting_after instr.Else (Unconditional ∷ openers) = Misplaced
nesting_after instr.Else [] = Misplaced
nesting_after instr.End (opener ∷ openers) = Open openers
nesting_after instr.End [] = Closed
nesting_after _ openers = Open openers

-- an instruction, and what follows it unless it is the last one
abbrev pub rest_of_expression : Nesting → Instruction → List ℕ
    → (List Opener → Option (List Instruction × List ℕ)) → Option (List Instruction × List ℕ)
rest_of_expression Closed i rest go = Some (i ∷ [], rest)
rest_of_expression Misplaced i rest go = None
rest_of_expression (Open openers) i rest go = go openers >>= λ others. Some (i ∷ others.0, others.1)

-- an expression of at most so many instructions, where these blocks are open
unfoldable pub expression_up_to_at : ℕ → List Opener → List ℕ → Option (List Instruction × List ℕ)
expression_up_to_at zero openers bytes = None
expression_up_to_at (suc most) openers bytes =
    instruction_at bytes
    >>= λ i. rest_of_expression (nesting_after i.0 openers) i.0 i.1 (λ inner.
    expression_up_to_at most inner i.1)

-- an expression: each instruction takes a byte at least
unfoldable pub expression_at : List ℕ → Option (List Instruction × List ℕ)
expression_at bytes = expression_up_to_at (length bytes) [] bytes
