-- When an instruction sequence has a type (Core Specification 1.0, section 3.3): one rule for each
-- instruction, and one for putting them together.
use Rattle.std.specs.Prelude.{◌≡◌, ◌≤◌, ℕ, ◌^◌, List, [], ◌∷◌, ◌++◌, Some, None, slice_get}
use Rattle.std.specs.List.{AllByRecursion}
use Rattle.wasm_syntax.specs.declared.types.ValueType.{ValueType}
use Rattle.wasm_syntax.specs.declared.types.ValueType.TheVariants.{I32}
use Rattle.wasm_syntax.specs.declared.types.FunctionType.{FunctionType}
use Rattle.wasm_syntax.specs.declared.types.TableType.{TableType}
use Rattle.wasm_syntax.specs.declared.types.MemoryType.{MemoryType}
use Rattle.wasm_syntax.specs.declared.types.GlobalType.{GlobalType}
use Rattle.wasm_syntax.specs.declared.types.Mutability.TheVariants.{Variable}
use Rattle.wasm_syntax.specs.declared.instruction.Instruction.{Instruction}
use Rattle.wasm_syntax.specs.declared.instruction.Instruction.TheVariants as instr
use Rattle.wasm_syntax.specs.rules.Sequence.{Sequence, Stop, Plain, InBlock, InLoop, InIf, InIfElse}
use Rattle.wasm_rules.specs.Types.{IsOf, conversion_takes, conversion_gives, loaded_type}
use Rattle.wasm_rules.specs.Types.{loaded_width, stored_type, stored_width, bytes_in}
use Rattle.wasm_rules.specs.Types.{takes_of, gives_of, results_of}

-- What typing looks up (3.1.1): imported ones first in each list; the locals with the parameters;
-- what the function around gives. The labels are listed apart, the innermost first, each with what
-- a branch to it takes.
pub record Context : Type 0 where
  pub types : List FunctionType
  pub functions : List FunctionType
  pub tables : List TableType
  pub memories : List MemoryType
  pub globals : List GlobalType
  pub locals : List ValueType
  pub returns : List ValueType

-- what the body of a function of this type with these declared locals looks up
abbrev pub body_context : Context → FunctionType → List ValueType → Context
body_context c signature declared = record c {
  locals = signature.parameters ++ declared;
  returns = gives_of signature;
}

-- there is a table, a memory
abbrev pub HasTable : Context → Type 0
HasTable c = (t : TableType) × (slice_get c.tables 0 ≡ Some t)

-- there is a memory
abbrev pub HasMemory : Context → Type 0
HasMemory c = (t : MemoryType) × (slice_get c.memories 0 ≡ Some t)

-- a label that takes these types
abbrev pub IsLabel : List (List ValueType) → List ValueType → ℕ → Type 0
IsLabel labels ts l = slice_get labels l ≡ Some ts

-- the instruction takes the operands p and leaves q
abbrev pub HasInstructionType : Context → List (List ValueType) → Instruction → List ValueType
    → List ValueType → Type 0
HasInstructionType c labels instr.Unreachable p q = Unit {0}
HasInstructionType c labels instr.Nop p q = (p ≡ []) × (q ≡ [])
HasInstructionType c labels (instr.Br l) p q = (ts : List ValueType) × (rest : List ValueType)
    × IsLabel labels ts l × (p ≡ ts ++ rest)
HasInstructionType c labels (instr.BrIf l) p q = (ts : List ValueType) × IsLabel labels ts l
    × (p ≡ I32 ∷ ts) × (q ≡ ts)
HasInstructionType c labels (instr.BrTable ls l) p q = (ts : List ValueType)
    × (rest : List ValueType) × AllByRecursion (IsLabel labels ts) ls × IsLabel labels ts l
    × (p ≡ I32 ∷ (ts ++ rest))
HasInstructionType c labels instr.Return p q = (rest : List ValueType) × (p ≡ c.returns ++ rest)
HasInstructionType c labels (instr.Call x) p q = (f : FunctionType)
    × (slice_get c.functions x ≡ Some f) × (p ≡ takes_of f) × (q ≡ gives_of f)
HasInstructionType c labels (instr.CallIndirect x) p q = (f : FunctionType)
    × (slice_get c.types x ≡ Some f) × HasTable c × (p ≡ I32 ∷ takes_of f) × (q ≡ gives_of f)
HasInstructionType c labels instr.Drop p q = (t : ValueType) × (p ≡ t ∷ []) × (q ≡ [])
HasInstructionType c labels instr.Select p q = (t : ValueType) × (p ≡ I32 ∷ t ∷ t ∷ [])
    × (q ≡ t ∷ [])
HasInstructionType c labels (instr.LocalGet x) p q = (t : ValueType)
    × (slice_get c.locals x ≡ Some t) × (p ≡ []) × (q ≡ t ∷ [])
HasInstructionType c labels (instr.LocalSet x) p q = (t : ValueType)
    × (slice_get c.locals x ≡ Some t) × (p ≡ t ∷ []) × (q ≡ [])
HasInstructionType c labels (instr.LocalTee x) p q = (t : ValueType)
    × (slice_get c.locals x ≡ Some t) × (p ≡ t ∷ []) × (q ≡ t ∷ [])
HasInstructionType c labels (instr.GlobalGet x) p q = (g : GlobalType)
    × (slice_get c.globals x ≡ Some g) × (p ≡ []) × (q ≡ g.value_type ∷ [])
HasInstructionType c labels (instr.GlobalSet x) p q = (g : GlobalType)
    × (slice_get c.globals x ≡ Some g) × (g.mutability ≡ Variable)
    × (p ≡ g.value_type ∷ []) × (q ≡ [])
HasInstructionType c labels (instr.Load o m) p q = HasMemory c
    × (2 ^ m.align ≤ bytes_in (loaded_width o)) × (p ≡ I32 ∷ []) × (q ≡ loaded_type o ∷ [])
HasInstructionType c labels (instr.Store o m) p q = HasMemory c
    × (2 ^ m.align ≤ bytes_in (stored_width o)) × (p ≡ stored_type o ∷ I32 ∷ []) × (q ≡ [])
HasInstructionType c labels instr.MemorySize p q = HasMemory c × (p ≡ []) × (q ≡ I32 ∷ [])
HasInstructionType c labels instr.MemoryGrow p q = HasMemory c × (p ≡ I32 ∷ []) × (q ≡ I32 ∷ [])
HasInstructionType c labels instr.MemoryCopy p q = HasMemory c
    × (p ≡ I32 ∷ I32 ∷ I32 ∷ []) × (q ≡ [])
HasInstructionType c labels instr.MemoryFill p q = HasMemory c
    × (p ≡ I32 ∷ I32 ∷ I32 ∷ []) × (q ≡ [])
HasInstructionType c labels (instr.Const v) p q = (t : ValueType) × IsOf t v × (p ≡ [])
    × (q ≡ t ∷ [])
HasInstructionType c labels (instr.Eqz t) p q = (p ≡ t ∷ []) × (q ≡ I32 ∷ [])
HasInstructionType c labels (instr.Compare t o) p q = (p ≡ t ∷ t ∷ []) × (q ≡ I32 ∷ [])
HasInstructionType c labels (instr.Unary t o) p q = (p ≡ t ∷ []) × (q ≡ t ∷ [])
HasInstructionType c labels (instr.Binary t o) p q = (p ≡ t ∷ t ∷ []) × (q ≡ t ∷ [])
HasInstructionType c labels (instr.Convert o) p q = (p ≡ conversion_takes o ∷ [])
    × (q ≡ conversion_gives o ∷ [])
-- those that open, part or close a sequence are no instruction by themselves
HasInstructionType c labels (instr.Block t) p q = ⊥
HasInstructionType c labels (instr.Loop t) p q = ⊥
HasInstructionType c labels (instr.If t) p q = ⊥
HasInstructionType c labels instr.Else p q = ⊥
HasInstructionType c labels instr.End p q = ⊥

-- The sequence has type [a] to [b]. Each instruction leaves the operands below those that it takes
-- as they are. Behind `unreachable`, `br`, `br_table` and `return` they may be any: there q is
-- free. An `if` without `else` gives nothing.
abbrev pub HasType : Context → List (List ValueType) → Sequence → List ValueType → List ValueType
    → Type 0
HasType c labels Stop a b = a ≡ b
HasType c labels (Plain i rest) a b =
    (p : List ValueType) × (q : List ValueType) × (below : List ValueType) × (a ≡ p ++ below)
    × HasInstructionType c labels i p q × HasType c labels rest (q ++ below) b
HasType c labels (InBlock t body rest) a b =
    HasType c (results_of t ∷ labels) body [] (results_of t)
    × HasType c labels rest (results_of t ++ a) b
HasType c labels (InLoop t body rest) a b =
    HasType c ([] ∷ labels) body [] (results_of t) × HasType c labels rest (results_of t ++ a) b
HasType c labels (InIf t first rest) a b =
    (below : List ValueType) × (a ≡ I32 ∷ below) × (t ≡ None) × HasType c ([] ∷ labels) first [] []
    × HasType c labels rest below b
HasType c labels (InIfElse t first second rest) a b =
    (below : List ValueType) × (a ≡ I32 ∷ below)
    × HasType c (results_of t ∷ labels) first [] (results_of t)
    × HasType c (results_of t ∷ labels) second [] (results_of t)
    × HasType c labels rest (results_of t ++ below) b
