-- What is spelled takes bytes.
use Rattle.std.proofs.Common.{ℕ, ◌-◌, ◌+◌, ◌<◌, ◌≤◌, inl, inr, List, [], ◌∷◌, length, Some, None}
use Rattle.std.proofs.Common.{ap, arith}
use Rattle.std.proofs.lemmas.List.{length-append}
use Rattle.wasm_syntax.specs.declared.types.ValueType.TheVariants.{I32, I64}
use Rattle.wasm_syntax.specs.declared.value.Value.TheVariants as value
use Rattle.wasm_syntax.specs.declared.instruction.Instruction.TheVariants as instr
use Rattle.wasm_syntax.specs.rules.Items.{IsThisByte, IsUnsigned, IsSigned, IsU32, AreItems}
use Rattle.wasm_syntax.specs.rules.Items.{IsVector, IsBytes, IsBlockType}
use Rattle.wasm_syntax.specs.rules.Instructions.{IsMemoryArgument, IsInstruction}

-- every spelling takes a byte at least
abbrev pub TakesBytes : {X : Type 0} → (List ℕ → X → List ℕ → Type 0) → Type 0
TakesBytes {X} IsItem = (bytes : List ℕ) (x : X) (rest : List ℕ) → IsItem bytes x rest
    → length rest < length bytes

pub byte_shorter : (b : ℕ) (bytes rest : List ℕ) → IsThisByte b bytes rest
    → length rest < length bytes
byte_shorter b bytes rest h = rw h (omega arith)

pub unsigned_shorter : (bits : ℕ) → TakesBytes (IsUnsigned bits)
unsigned_shorter bits [] n rest h = absurd h
unsigned_shorter bits (b ∷ bytes) n rest (inl h) = rw h.3 (omega arith)
unsigned_shorter bits (b ∷ bytes) n rest (inr h) =
    omega (arith, unsigned_shorter (bits - 7) bytes h.2 rest h.3)

pub u32_shorter : TakesBytes IsU32
u32_shorter bytes n rest h = unsigned_shorter 32 bytes n rest h

pub signed_shorter : (bits : ℕ) → TakesBytes (IsSigned bits)
signed_shorter bits [] n rest h = absurd h
signed_shorter bits (b ∷ bytes) n rest (inl h) = rw h.2 (omega arith)
signed_shorter bits (b ∷ bytes) n rest (inr h) =
    omega (arith, signed_shorter (bits - 7) bytes h.2 rest h.3)

pub items_shorter : {X : Type 0} (IsItem : List ℕ → X → List ℕ → Type 0) → TakesBytes IsItem
    → (bytes : List ℕ) (xs : List X) (rest : List ℕ) → AreItems IsItem bytes xs rest
    → length xs + length rest ≤ length bytes
items_shorter IsItem takes bytes [] rest h = rw h (omega arith)
items_shorter IsItem takes bytes (x ∷ xs) rest h =
    omega (arith, takes bytes x h.0 h.1, items_shorter IsItem takes h.0 xs rest h.2)

pub vector_shorter : {X : Type 0} (IsItem : List ℕ → X → List ℕ → Type 0) → TakesBytes IsItem
    → TakesBytes (IsVector IsItem)
vector_shorter IsItem takes bytes xs rest h =
    omega (arith, u32_shorter bytes (length xs) h.0 h.1, items_shorter IsItem takes h.0 xs rest h.2)

pub bytes_shorter : TakesBytes IsBytes
bytes_shorter bytes part rest h =
    omega (arith, u32_shorter bytes (length part) h.0 h.1, ap length h.2, length-append part rest)

block_type_shorter : TakesBytes IsBlockType
block_type_shorter bytes None rest h = byte_shorter 0x40 bytes rest h
block_type_shorter bytes (Some I32) rest h = byte_shorter 0x7f bytes rest h
block_type_shorter bytes (Some I64) rest h = byte_shorter 0x7e bytes rest h

memory_argument_shorter : TakesBytes IsMemoryArgument
memory_argument_shorter bytes m rest h =
    omega (arith, u32_shorter bytes m.align h.0 h.1, u32_shorter h.0 m.offset rest h.2)

-- an opcode and its operands
behind_byte : (b : ℕ) (bytes a rest : List ℕ) → IsThisByte b bytes a → length rest < length a
    → length rest < length bytes
behind_byte b bytes a rest h lt = omega (arith, byte_shorter b bytes a h, lt)

pub instruction_shorter : TakesBytes IsInstruction
instruction_shorter bytes (instr.Block t) rest h =
    behind_byte _ bytes h.0 rest h.1 (block_type_shorter h.0 t rest h.2)
instruction_shorter bytes (instr.Loop t) rest h =
    behind_byte _ bytes h.0 rest h.1 (block_type_shorter h.0 t rest h.2)
instruction_shorter bytes (instr.If t) rest h =
    behind_byte _ bytes h.0 rest h.1 (block_type_shorter h.0 t rest h.2)
instruction_shorter bytes (instr.Br n) rest h =
    behind_byte _ bytes h.0 rest h.1 (u32_shorter h.0 n rest h.2)
instruction_shorter bytes (instr.BrIf n) rest h =
    behind_byte _ bytes h.0 rest h.1 (u32_shorter h.0 n rest h.2)
instruction_shorter bytes (instr.BrTable labels last) rest h =
    let lt : length rest < length h.0 =
    omega (
      arith,
      vector_shorter IsU32 u32_shorter h.0 labels h.2.0 h.2.1,
      u32_shorter h.2.0 last rest h.2.2,
    ) in
    behind_byte _ bytes h.0 rest h.1 lt
instruction_shorter bytes (instr.Call n) rest h =
    behind_byte _ bytes h.0 rest h.1 (u32_shorter h.0 n rest h.2)
instruction_shorter bytes (instr.CallIndirect n) rest h =
    let lt : length rest < length h.0 =
    omega (arith, u32_shorter h.0 n h.2.0 h.2.1, byte_shorter 0x00 h.2.0 rest h.2.2) in
    behind_byte _ bytes h.0 rest h.1 lt
instruction_shorter bytes (instr.LocalGet n) rest h =
    behind_byte _ bytes h.0 rest h.1 (u32_shorter h.0 n rest h.2)
instruction_shorter bytes (instr.LocalSet n) rest h =
    behind_byte _ bytes h.0 rest h.1 (u32_shorter h.0 n rest h.2)
instruction_shorter bytes (instr.LocalTee n) rest h =
    behind_byte _ bytes h.0 rest h.1 (u32_shorter h.0 n rest h.2)
instruction_shorter bytes (instr.GlobalGet n) rest h =
    behind_byte _ bytes h.0 rest h.1 (u32_shorter h.0 n rest h.2)
instruction_shorter bytes (instr.GlobalSet n) rest h =
    behind_byte _ bytes h.0 rest h.1 (u32_shorter h.0 n rest h.2)
instruction_shorter bytes (instr.Load operator m) rest h =
    behind_byte _ bytes h.0 rest h.1 (memory_argument_shorter h.0 m rest h.2)
instruction_shorter bytes (instr.Store operator m) rest h =
    behind_byte _ bytes h.0 rest h.1 (memory_argument_shorter h.0 m rest h.2)
instruction_shorter bytes instr.MemorySize rest h =
    behind_byte _ bytes h.0 rest h.1 (byte_shorter 0x00 h.0 rest h.2)
instruction_shorter bytes instr.MemoryGrow rest h =
    behind_byte _ bytes h.0 rest h.1 (byte_shorter 0x00 h.0 rest h.2)
instruction_shorter bytes instr.MemoryCopy rest h =
    let lt : length rest < length h.0 =
    omega (
      arith,
      u32_shorter h.0 10 h.2.0 h.2.1,
      byte_shorter 0x00 h.2.0 h.2.2.0 h.2.2.1,
      byte_shorter 0x00 h.2.2.0 rest h.2.2.2,
    ) in
    behind_byte _ bytes h.0 rest h.1 lt
instruction_shorter bytes instr.MemoryFill rest h =
    let lt : length rest < length h.0 =
    omega (arith, u32_shorter h.0 11 h.2.0 h.2.1, byte_shorter 0x00 h.2.0 rest h.2.2) in
    behind_byte _ bytes h.0 rest h.1 lt
instruction_shorter bytes (instr.Const (value.I32 n)) rest h =
    behind_byte _ bytes h.0 rest h.1 (signed_shorter 32 h.0 n rest h.2)
instruction_shorter bytes (instr.Const (value.I64 n)) rest h =
    behind_byte _ bytes h.0 rest h.1 (signed_shorter 64 h.0 n rest h.2)
instruction_shorter bytes _ rest h = byte_shorter _ bytes rest h
