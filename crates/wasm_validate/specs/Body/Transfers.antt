-- Instructions that transfer control.
use Rattle.wasm_syntax.specs.declared.instruction.Instruction.{Instruction}
use Rattle.wasm_syntax.specs.declared.instruction.Instruction.TheVariants as instr

-- no instruction of numbers, locals, globals or memory
abbrev pub IsTransfer : Instruction → Type 0
IsTransfer instr.Drop = ⊥
IsTransfer instr.Select = ⊥
IsTransfer (instr.LocalGet x) = ⊥
IsTransfer (instr.LocalSet x) = ⊥
IsTransfer (instr.LocalTee x) = ⊥
IsTransfer (instr.GlobalGet x) = ⊥
IsTransfer (instr.GlobalSet x) = ⊥
IsTransfer (instr.Load o m) = ⊥
IsTransfer (instr.Store o m) = ⊥
IsTransfer instr.MemorySize = ⊥
IsTransfer instr.MemoryGrow = ⊥
IsTransfer instr.MemoryCopy = ⊥
IsTransfer instr.MemoryFill = ⊥
IsTransfer (instr.Const v) = ⊥
IsTransfer (instr.Eqz t) = ⊥
IsTransfer (instr.Compare t o) = ⊥
IsTransfer (instr.Unary t o) = ⊥
IsTransfer (instr.Binary t o) = ⊥
IsTransfer (instr.Convert o) = ⊥
IsTransfer _ = Unit {0}
