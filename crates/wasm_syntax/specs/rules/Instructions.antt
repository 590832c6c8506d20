-- The binary grammar of instructions and expressions (Core Specification 1.0, section 5.4; sign
-- extension, `memory.copy` and `memory.fill` are those of edition 2.0).
use Rattle.std.specs.Prelude.{ℕ, ◌+◌, List}
use Rattle.wasm_syntax.specs.declared.types.ValueType.{ValueType}
use Rattle.wasm_syntax.specs.declared.types.ValueType.TheVariants.{I32, I64}
use Rattle.wasm_syntax.specs.declared.value.Value.{Value}
use Rattle.wasm_syntax.specs.declared.value.Value.TheVariants as value
use Rattle.wasm_syntax.specs.declared.operator.UnaryOperator.{UnaryOperator}
use Rattle.wasm_syntax.specs.declared.operator.UnaryOperator.TheVariants.{Clz, Ctz, Popcnt}
use Rattle.wasm_syntax.specs.declared.operator.BinaryOperator.{BinaryOperator}
use Rattle.wasm_syntax.specs.declared.operator.BinaryOperator.TheVariants.{Add, Sub, Mul, DivS}
use Rattle.wasm_syntax.specs.declared.operator.BinaryOperator.TheVariants.{DivU, RemS, RemU, And}
use Rattle.wasm_syntax.specs.declared.operator.BinaryOperator.TheVariants.{Or, Xor, Shl, ShrS, ShrU}
use Rattle.wasm_syntax.specs.declared.operator.BinaryOperator.TheVariants.{Rotl, Rotr}
use Rattle.wasm_syntax.specs.declared.operator.Comparison.{Comparison}
use Rattle.wasm_syntax.specs.declared.operator.Comparison.TheVariants.{Eq, Ne, LtS, LtU, GtS, GtU}
use Rattle.wasm_syntax.specs.declared.operator.Comparison.TheVariants.{LeS, LeU, GeS, GeU}
use Rattle.wasm_syntax.specs.declared.operator.Conversion.{Conversion}
use Rattle.wasm_syntax.specs.declared.operator.Conversion.TheVariants.{I32WrapI64, I64ExtendI32S}
use Rattle.wasm_syntax.specs.declared.operator.Conversion.TheVariants.{I64ExtendI32U, I32Extend8S}
use Rattle.wasm_syntax.specs.declared.operator.Conversion.TheVariants.{I32Extend16S, I64Extend8S}
use Rattle.wasm_syntax.specs.declared.operator.Conversion.TheVariants.{I64Extend16S, I64Extend32S}
use Rattle.wasm_syntax.specs.declared.operator.LoadOperator.{LoadOperator}
use Rattle.wasm_syntax.specs.declared.operator.LoadOperator.TheVariants as load
use Rattle.wasm_syntax.specs.declared.operator.StoreOperator.{StoreOperator}
use Rattle.wasm_syntax.specs.declared.operator.StoreOperator.TheVariants as store
use Rattle.wasm_syntax.specs.declared.instruction.MemoryArgument.{MemoryArgument}
use Rattle.wasm_syntax.specs.declared.instruction.Instruction.{Instruction}
use Rattle.wasm_syntax.specs.declared.instruction.Instruction.TheVariants as instr
use Rattle.wasm_syntax.specs.rules.Sequence.{Sequence, Spells}
use Rattle.wasm_syntax.specs.rules.Items.{IsThisByte, IsU32, IsSigned, AreItems, IsVector}
use Rattle.wasm_syntax.specs.rules.Items.{IsBlockType}

-- ---- opcodes (5.4.4, 5.4.5)

-- the opcode of a load
abbrev pub load_opcode : LoadOperator → ℕ
load_opcode load.I32 = 0x28
load_opcode load.I64 = 0x29
load_opcode load.I32Bits8S = 0x2c
load_opcode load.I32Bits8U = 0x2d
load_opcode load.I32Bits16S = 0x2e
load_opcode load.I32Bits16U = 0x2f
load_opcode load.I64Bits8S = 0x30
load_opcode load.I64Bits8U = 0x31
load_opcode load.I64Bits16S = 0x32
load_opcode load.I64Bits16U = 0x33
load_opcode load.I64Bits32S = 0x34
load_opcode load.I64Bits32U = 0x35

-- the opcode of a store
abbrev pub store_opcode : StoreOperator → ℕ
store_opcode store.I32 = 0x36
store_opcode store.I64 = 0x37
store_opcode store.I32Bits8 = 0x3a
store_opcode store.I32Bits16 = 0x3b
store_opcode store.I64Bits8 = 0x3c
store_opcode store.I64Bits16 = 0x3d
store_opcode store.I64Bits32 = 0x3e

-- The operators of both types are in one order, from the opcode of the first one on.
abbrev pub compare_place : Comparison → ℕ
compare_place Eq = 0
compare_place Ne = 1
compare_place LtS = 2
compare_place LtU = 3
compare_place GtS = 4
compare_place GtU = 5
compare_place LeS = 6
compare_place LeU = 7
compare_place GeS = 8
compare_place GeU = 9

-- the place of a unary operator among the opcodes of its width
abbrev pub unary_place : UnaryOperator → ℕ
unary_place Clz = 0
unary_place Ctz = 1
unary_place Popcnt = 2

-- the place of a binary operator among the opcodes of its width
abbrev pub binary_place : BinaryOperator → ℕ
binary_place Add = 0
binary_place Sub = 1
binary_place Mul = 2
binary_place DivS = 3
binary_place DivU = 4
binary_place RemS = 5
binary_place RemU = 6
binary_place And = 7
binary_place Or = 8
binary_place Xor = 9
binary_place Shl = 10
binary_place ShrS = 11
binary_place ShrU = 12
binary_place Rotl = 13
binary_place Rotr = 14

-- the opcode of `eqz`
abbrev pub eqz_opcode : ValueType → ℕ
eqz_opcode I32 = 0x45
eqz_opcode I64 = 0x50

-- the opcode of a comparison
abbrev pub compare_opcode : ValueType → Comparison → ℕ
compare_opcode I32 operator = 0x46 + compare_place operator
compare_opcode I64 operator = 0x51 + compare_place operator

-- the opcode of a unary operator
abbrev pub unary_opcode : ValueType → UnaryOperator → ℕ
unary_opcode I32 operator = 0x67 + unary_place operator
unary_opcode I64 operator = 0x79 + unary_place operator

-- the opcode of a binary operator
abbrev pub binary_opcode : ValueType → BinaryOperator → ℕ
binary_opcode I32 operator = 0x6a + binary_place operator
binary_opcode I64 operator = 0x7c + binary_place operator

-- the opcode of a conversion
abbrev pub convert_opcode : Conversion → ℕ
convert_opcode I32WrapI64 = 0xa7
convert_opcode I64ExtendI32S = 0xac
convert_opcode I64ExtendI32U = 0xad
convert_opcode I32Extend8S = 0xc0
convert_opcode I32Extend16S = 0xc1
convert_opcode I64Extend8S = 0xc2
convert_opcode I64Extend16S = 0xc3
convert_opcode I64Extend32S = 0xc4

-- ---- instructions (5.4.1 to 5.4.5)

-- alignment and offset of an access
abbrev pub IsMemoryArgument : List ℕ → MemoryArgument → List ℕ → Type 0
IsMemoryArgument bytes m rest = (a : List ℕ) × IsU32 bytes m.align a × IsU32 a m.offset rest

-- an opcode, and what IsOperand says of the bytes after it
abbrev pub IsOpcode : ℕ → (List ℕ → Type 0) → List ℕ → Type 0
IsOpcode opcode IsOperand bytes = (a : List ℕ) × IsThisByte opcode bytes a × IsOperand a

-- the same of an opcode that is a prefix and a number in 32 bits
abbrev pub IsPrefixed : ℕ → (List ℕ → Type 0) → List ℕ → Type 0
IsPrefixed n IsOperand bytes = IsOpcode 0xfc (λ a. (b : List ℕ) × IsU32 a n b × IsOperand b) bytes

-- a constant
abbrev pub IsConstantOpcode : List ℕ → Value → List ℕ → Type 0
IsConstantOpcode bytes (value.I32 n) rest = IsOpcode 0x41 (λ a. IsSigned 32 a n rest) bytes
IsConstantOpcode bytes (value.I64 n) rest = IsOpcode 0x42 (λ a. IsSigned 64 a n rest) bytes

-- one opcode with its immediate operands
abbrev pub IsInstruction : List ℕ → Instruction → List ℕ → Type 0
IsInstruction bytes instr.Unreachable rest = IsThisByte 0x00 bytes rest
IsInstruction bytes instr.Nop rest = IsThisByte 0x01 bytes rest
IsInstruction bytes (instr.Block t) rest = IsOpcode 0x02 (λ a. IsBlockType a t rest) bytes
IsInstruction bytes (instr.Loop t) rest = IsOpcode 0x03 (λ a. IsBlockType a t rest) bytes
IsInstruction bytes (instr.If t) rest = IsOpcode 0x04 (λ a. IsBlockType a t rest) bytes
IsInstruction bytes instr.Else rest = IsThisByte 0x05 bytes rest
IsInstruction bytes instr.End rest = IsThisByte 0x0b bytes rest
IsInstruction bytes (instr.Br label) rest = IsOpcode 0x0c (λ a. IsU32 a label rest) bytes
IsInstruction bytes (instr.BrIf label) rest = IsOpcode 0x0d (λ a. IsU32 a label rest) bytes
IsInstruction bytes (instr.BrTable labels last) rest =
    IsOpcode 0x0e (λ a. (b : List ℕ) × IsVector IsU32 a labels b × IsU32 b last rest) bytes
IsInstruction bytes instr.Return rest = IsThisByte 0x0f bytes rest
IsInstruction bytes (instr.Call function) rest = IsOpcode 0x10 (λ a. IsU32 a function rest) bytes
IsInstruction bytes (instr.CallIndirect function_type) rest =
    IsOpcode 0x11 (λ a. (b : List ℕ) × IsU32 a function_type b × IsThisByte 0x00 b rest) bytes
IsInstruction bytes instr.Drop rest = IsThisByte 0x1a bytes rest
IsInstruction bytes instr.Select rest = IsThisByte 0x1b bytes rest
IsInstruction bytes (instr.LocalGet local) rest = IsOpcode 0x20 (λ a. IsU32 a local rest) bytes
IsInstruction bytes (instr.LocalSet local) rest = IsOpcode 0x21 (λ a. IsU32 a local rest) bytes
IsInstruction bytes (instr.LocalTee local) rest = IsOpcode 0x22 (λ a. IsU32 a local rest) bytes
IsInstruction bytes (instr.GlobalGet global) rest = IsOpcode 0x23 (λ a. IsU32 a global rest) bytes
IsInstruction bytes (instr.GlobalSet global) rest = IsOpcode 0x24 (λ a. IsU32 a global rest) bytes
IsInstruction bytes (instr.Load operator m) rest =
    IsOpcode (load_opcode operator) (λ a. IsMemoryArgument a m rest) bytes
IsInstruction bytes (instr.Store operator m) rest =
    IsOpcode (store_opcode operator) (λ a. IsMemoryArgument a m rest) bytes
IsInstruction bytes instr.MemorySize rest = IsOpcode 0x3f (λ a. IsThisByte 0x00 a rest) bytes
IsInstruction bytes instr.MemoryGrow rest = IsOpcode 0x40 (λ a. IsThisByte 0x00 a rest) bytes
IsInstruction bytes instr.MemoryCopy rest =
    IsPrefixed 10 (λ a. (b : List ℕ) × IsThisByte 0x00 a b × IsThisByte 0x00 b rest) bytes
IsInstruction bytes instr.MemoryFill rest = IsPrefixed 11 (λ a. IsThisByte 0x00 a rest) bytes
IsInstruction bytes (instr.Const v) rest = IsConstantOpcode bytes v rest
IsInstruction bytes (instr.Eqz t) rest = IsThisByte (eqz_opcode t) bytes rest
IsInstruction bytes (instr.Compare t operator) rest =
    IsThisByte (compare_opcode t operator) bytes rest
IsInstruction bytes (instr.Unary t operator) rest = IsThisByte (unary_opcode t operator) bytes rest
IsInstruction bytes (instr.Binary t operator) rest =
    IsThisByte (binary_opcode t operator) bytes rest
IsInstruction bytes (instr.Convert operator) rest = IsThisByte (convert_opcode operator) bytes rest

-- ---- expressions (5.4.6)

-- opcodes, one after another, that are a nested sequence and the end that closes it
abbrev pub IsExpression : List ℕ → List Instruction → List ℕ → Type 0
IsExpression bytes opcodes rest = (s : Sequence) × Spells opcodes s
    × AreItems IsInstruction bytes opcodes rest
