-- Of which sort the first fault is, where checking a body from the front finds one. Nothing here
-- has to be believed: what it says of the body is proved.
use Rattle.std.specs.Prelude.{ℕ, ◌^◌, nat_le, Bool, true, false, List, [], ◌∷◌, Option, Some, None}
use Rattle.std.specs.Prelude.{slice_get}
use Rattle.wasm_syntax.specs.declared.types.ValueType.{ValueType}
use Rattle.wasm_syntax.specs.declared.instruction.Instruction.{Instruction}
use Rattle.wasm_syntax.specs.declared.instruction.Instruction.TheVariants as instr
use Rattle.wasm_rules.specs.Types.{are_same_types, bytes_in, loaded_width, stored_width}
use Rattle.wasm_rules.specs.Typing.{Context}
use Rattle.wasm_validate.specs.declared.parts.fault.ValidFault.{ValidFault}
use Rattle.wasm_validate.specs.declared.parts.fault.ValidFault.TheVariants.{Typing, Index, Limits}
use Rattle.wasm_validate.specs.laws.Checking.{Level, has_memory, has_table, labels_of, levels_after}

-- `Index` where there is nothing
abbrev pub fault_at : {X : Type 0} → Option X → (X → ValidFault) → ValidFault
fault_at None go = Index
fault_at (Some x) go = go x

-- this sort where a test fails
abbrev pub fault_unless : Bool → ValidFault → ValidFault → ValidFault
fault_unless true fault other = other
fault_unless false fault other = fault

-- the first of these labels that isn't there, or that takes other types than the default one
abbrev pub labels_fault : List (List ValueType) → List ValueType → List ℕ → ValidFault
labels_fault labels ts [] = Typing
labels_fault labels ts (l ∷ ls) =
    fault_at (slice_get labels l)
    (λ us. fault_unless (are_same_types us ts) Typing (labels_fault labels ts ls))

-- what is told of an instruction that stays in its sequence and can't be performed
abbrev pub fault_of : Context → List (List ValueType) → Instruction → ValidFault
fault_of c labels (instr.Br l) = fault_at (slice_get labels l) (λ ts. Typing)
fault_of c labels (instr.BrIf l) = fault_at (slice_get labels l) (λ ts. Typing)
fault_of c labels (instr.BrTable ls l) =
    fault_at (slice_get labels l) (λ ts. labels_fault labels ts ls)
fault_of c labels (instr.Call x) = fault_at (slice_get c.functions x) (λ f. Typing)
fault_of c labels (instr.CallIndirect x) =
    fault_at (slice_get c.types x) (λ f. fault_unless (has_table c) Index Typing)
fault_of c labels (instr.LocalGet x) = fault_at (slice_get c.locals x) (λ t. Typing)
fault_of c labels (instr.LocalSet x) = fault_at (slice_get c.locals x) (λ t. Typing)
fault_of c labels (instr.LocalTee x) = fault_at (slice_get c.locals x) (λ t. Typing)
fault_of c labels (instr.GlobalGet x) = fault_at (slice_get c.globals x) (λ g. Typing)
fault_of c labels (instr.GlobalSet x) = fault_at (slice_get c.globals x) (λ g. Typing)
fault_of c labels (instr.Load o a) =
    fault_unless (has_memory c) Index
    (fault_unless (nat_le (2 ^ a.align) (bytes_in (loaded_width o))) Limits Typing)
fault_of c labels (instr.Store o a) =
    fault_unless (has_memory c) Index
    (fault_unless (nat_le (2 ^ a.align) (bytes_in (stored_width o))) Limits Typing)
fault_of c labels instr.MemorySize = fault_unless (has_memory c) Index Typing
fault_of c labels instr.MemoryGrow = fault_unless (has_memory c) Index Typing
fault_of c labels instr.MemoryCopy = fault_unless (has_memory c) Index Typing
fault_of c labels instr.MemoryFill = fault_unless (has_memory c) Index Typing
fault_of c labels i = Typing

-- what is told of any opcode that can't follow. Where nothing is open it is `Typing`
abbrev pub opcode_fault : Context → Instruction → List Level → ValidFault
opcode_fault c (instr.Block t) levels = Typing
opcode_fault c (instr.Loop t) levels = Typing
opcode_fault c (instr.If t) levels = Typing
opcode_fault c instr.Else levels = Typing
opcode_fault c instr.End levels = Typing
opcode_fault c i [] = Typing
opcode_fault c i (l ∷ levels) = fault_of c (labels_of (l ∷ levels)) i

-- this sort where nothing follows
abbrev pub fault_from : ValidFault → Option (List Level) → (List Level → ValidFault) → ValidFault
fault_from fault None go = fault
fault_from fault (Some levels) go = go levels

-- what is told of the first of these opcodes that can't follow
abbrev pub fault_in : Context → List Instruction → List Level → ValidFault
fault_in c [] levels = Typing
fault_in c (i ∷ opcodes) levels =
    fault_from (opcode_fault c i levels) (levels_after c i levels)
    (λ levels'. fault_in c opcodes levels')
