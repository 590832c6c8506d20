-- What the code looks up of a frame's function, and of the call at which a frame waits.
use Rattle.std.specs.Prelude.{◌≡◌, ◌≢◌, ℕ, suc, ◌-◌, ◌≤◌, List, length, Some, slice_get}
use Rattle.wasm_syntax.specs.declared.types.FunctionType.{FunctionType}
use Rattle.wasm_syntax.specs.declared.module.Function.{Function}
use Rattle.wasm_syntax.specs.declared.instruction.Instruction.{Instruction}
use Rattle.wasm_syntax.specs.declared.instruction.Instruction.TheVariants as instr
use Rattle.wasm_rules.specs.Typing.{Context}
use Rattle.machine.specs.declared.execution.code.Executable.{Executable}

-- the module's own function with this number
abbrev pub IsOwnAt : Executable → ℕ → Function → Type 0
IsOwnAt code f g = (length code.calls.items ≤ f)
    × (slice_get code.«module».functions (f - length code.calls.items) ≡ Some g)

-- an instruction is there that closes no sequence
abbrev pub HasMore : List Instruction → ℕ → Type 0
HasMore body p = (i : Instruction) × (slice_get body p ≡ Some i) × (i ≢ instr.End)
    × (i ≢ instr.Else)

-- the instruction is a call of a function of this type, and takes so many operands
abbrev pub CallTakes : Context → Instruction → FunctionType → ℕ → Type 0
CallTakes c (instr.Call x) signature n = (slice_get c.functions x ≡ Some signature)
    × (n ≡ length signature.parameters)
CallTakes c (instr.CallIndirect x) signature n = (slice_get c.types x ≡ Some signature)
    × (n ≡ suc (length signature.parameters))
CallTakes c _ signature n = ⊥
