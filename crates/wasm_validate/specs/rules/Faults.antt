-- What each fault says of a module: a part of validity that doesn't hold.
use Rattle.std.specs.Prelude.{◌≡◌, ◌≤◌, ◌<◌, ◌^◌, ℕ, zero, suc, List, [], ◌∷◌, ◌++◌, length, map}
use Rattle.std.specs.Prelude.{Option, Some, slice_get, IfSome}
use Rattle.std.specs.List.{AllByRecursion}
use Rattle.wasm_syntax.specs.declared.types.ValueType.{ValueType}
use Rattle.wasm_syntax.specs.declared.types.ValueType.TheVariants.{I32}
use Rattle.wasm_syntax.specs.declared.types.FunctionType.{FunctionType}
use Rattle.wasm_syntax.specs.declared.types.GlobalType.{GlobalType}
use Rattle.wasm_syntax.specs.declared.instruction.Instruction.{Instruction}
use Rattle.wasm_syntax.specs.declared.instruction.Instruction.TheVariants as instr
use Rattle.wasm_syntax.specs.declared.module.Module.{Module}
use Rattle.wasm_syntax.specs.declared.module.Function.{Function}
use Rattle.wasm_syntax.specs.declared.module.Global.{Global}
use Rattle.wasm_syntax.specs.declared.module.Export.{Export}
use Rattle.wasm_syntax.specs.declared.module.Element.{Element}
use Rattle.wasm_syntax.specs.declared.module.Data.{Data}
use Rattle.wasm_syntax.specs.declared.module.Code.{Code}
use Rattle.wasm_syntax.specs.rules.Sequence.{Sequence, Spells}
use Rattle.wasm_rules.specs.Types.{bytes_in, gives_of, imported_globals, loaded_width}
use Rattle.wasm_rules.specs.Types.{results_of, stored_width}
use Rattle.wasm_rules.specs.Typing.{Context, HasType, body_context}
use Rattle.wasm_rules.specs.Validity.{AreFunctionTypes, HaveDistinctNames, IsConstant}
use Rattle.wasm_rules.specs.Validity.{IsExportItemValid, IsFunctionTypeValid, IsIndex}
use Rattle.wasm_rules.specs.Validity.{IsMemoryTypeValid, IsStartValid, IsTableTypeValid}
use Rattle.wasm_rules.specs.Validity.{globals_of, memories_of, module_context, tables_of}
use Rattle.wasm_validate.specs.declared.parts.fault.ValidFault.{ValidFault}
use Rattle.wasm_validate.specs.declared.parts.fault.ValidFault.TheVariants.{Typing, Index, Limits}
use Rattle.wasm_validate.specs.declared.parts.fault.ValidFault.TheVariants.{DuplicateExport, Memory}

-- ---- indices (2.5.1)

-- the indices of an instruction are defined, where so many labels are open
abbrev pub HasDefinedIndices : Context → ℕ → Instruction → Type 0
HasDefinedIndices c n (instr.Br l) = l < n
HasDefinedIndices c n (instr.BrIf l) = l < n
HasDefinedIndices c n (instr.BrTable ls l) = (l < n) × AllByRecursion (λ x. x < n) ls
HasDefinedIndices c n (instr.Call x) = IsIndex c.functions x
HasDefinedIndices c n (instr.CallIndirect x) = IsIndex c.types x × IsIndex c.tables 0
HasDefinedIndices c n (instr.LocalGet x) = IsIndex c.locals x
HasDefinedIndices c n (instr.LocalSet x) = IsIndex c.locals x
HasDefinedIndices c n (instr.LocalTee x) = IsIndex c.locals x
HasDefinedIndices c n (instr.GlobalGet x) = IsIndex c.globals x
HasDefinedIndices c n (instr.GlobalSet x) = IsIndex c.globals x
HasDefinedIndices c n (instr.Load o a) = IsIndex c.memories 0
HasDefinedIndices c n (instr.Store o a) = IsIndex c.memories 0
HasDefinedIndices c n instr.MemorySize = IsIndex c.memories 0
HasDefinedIndices c n instr.MemoryGrow = IsIndex c.memories 0
HasDefinedIndices c n instr.MemoryCopy = IsIndex c.memories 0
HasDefinedIndices c n instr.MemoryFill = IsIndex c.memories 0
HasDefinedIndices c n i = Unit {0}

-- how many labels are open after an instruction
abbrev pub labels_behind : Instruction → ℕ → ℕ
labels_behind (instr.Block t) n = suc n
labels_behind (instr.Loop t) n = suc n
labels_behind (instr.If t) n = suc n
labels_behind instr.End zero = zero
labels_behind instr.End (suc n) = n
labels_behind i n = n

-- those of what remains of a body are defined, where so many labels are open
abbrev pub HaveDefinedIndices : Context → ℕ → List Instruction → Type 0
HaveDefinedIndices c n [] = Unit {0}
HaveDefinedIndices c n (i ∷ opcodes) =
    HasDefinedIndices c n i × HaveDefinedIndices c (labels_behind i n) opcodes

-- if the expression is one global, there is such a global
abbrev pub NamesGlobal : List GlobalType → List Instruction → Type 0
NamesGlobal globals expression =
    (x : ℕ) → expression ≡ instr.GlobalGet x ∷ instr.End ∷ [] → IsIndex globals x

-- a function's type is defined, and the indices of its body
abbrev pub AreFunctionIndicesDefined : Module → List FunctionType → Function → Type 0
AreFunctionIndicesDefined m functions f =
    (t : FunctionType) × (slice_get m.types f.function_type ≡ Some t)
    × HaveDefinedIndices (body_context (module_context m functions) t f.code.locals) 1 f.code.body

-- an element segment's table, functions, and the global of its offset are defined
abbrev pub AreElementIndicesDefined : Module → List FunctionType → Element → Type 0
AreElementIndicesDefined m functions e =
    IsIndex (tables_of m) e.table × NamesGlobal (globals_of m) e.offset
    × AllByRecursion (IsIndex functions) e.functions

-- a data segment's memory and the global of its offset are defined
abbrev pub AreDataIndicesDefined : Module → Data → Type 0
AreDataIndicesDefined m d = IsIndex (memories_of m) d.memory × NamesGlobal (globals_of m) d.offset

-- the indices of the module are defined. In initial values only imported globals are
pub record AreIndicesDefined (m : Module) (functions : List FunctionType) : Type 0 where
  pub globals :
      AllByRecursion (λ (g : Global). NamesGlobal (imported_globals m.imports) g.initial) m.globals
  pub exports : AllByRecursion (λ (e : Export). IsExportItemValid m functions e.item) m.exports
  pub start : IfSome m.start (IsIndex functions)
  pub elements : AllByRecursion (AreElementIndicesDefined m functions) m.elements
  pub data_segments : AllByRecursion (AreDataIndicesDefined m) m.data_segments
  pub bodies : AllByRecursion (AreFunctionIndicesDefined m functions) m.functions

-- ---- limits (3.2, 3.3.4, 3.4.10)

-- two to the power of an alignment is at most the number of bytes
abbrev pub IsAligned : Instruction → Type 0
IsAligned (instr.Load o a) = 2 ^ a.align ≤ bytes_in (loaded_width o)
IsAligned (instr.Store o a) = 2 ^ a.align ≤ bytes_in (stored_width o)
IsAligned i = Unit {0}

-- each access of a function's body is aligned
abbrev pub IsFunctionAligned : Function → Type 0
IsFunctionAligned f = AllByRecursion IsAligned f.code.body

-- the limits of the module hold: results, sizes, alignments, one table and one memory
pub record AreLimitsKept (m : Module) : Type 0 where
  pub types : AllByRecursion IsFunctionTypeValid m.types
  pub tables : AllByRecursion IsTableTypeValid (tables_of m)
  pub memories : AllByRecursion IsMemoryTypeValid (memories_of m)
  pub one_table : length (tables_of m) ≤ 1
  pub one_memory : length (memories_of m) ≤ 1
  pub alignments : AllByRecursion IsFunctionAligned m.functions

-- ---- typing (3.3), whatever more were defined, and however accesses were aligned

-- what a context has, and more after it
abbrev pub extended : Context → Context → Context
extended c more = record c {
  types = c.types ++ more.types;
  functions = c.functions ++ more.functions;
  tables = c.tables ++ more.tables;
  memories = c.memories ++ more.memories;
  globals = c.globals ++ more.globals;
  locals = c.locals ++ more.locals;
}

-- the same access, aligned to one byte
abbrev pub unaligned : Instruction → Instruction
unaligned (instr.Load o a) = instr.Load o (record a { align = 0 })
unaligned (instr.Store o a) = instr.Store o (record a { align = 0 })
unaligned i = i

-- The body would have its function's type if more were defined, with labels around it, and if each
-- access were aligned to one byte.
pub record WouldHaveBody (c : Context) (signature : FunctionType) (code : Code) : Type 0 where
  pub more : Context
  pub around : List (Option ValueType)
  pub sequence : Sequence
  pub spells : Spells (map unaligned code.body) sequence
  pub typed :
      HasType (extended (body_context c signature code.locals) more)
      (gives_of signature ∷ map results_of around) sequence [] (gives_of signature)

-- a function's type is defined, and its body would have it
abbrev pub WouldHaveType : Module → List FunctionType → Function → Type 0
WouldHaveType m functions f =
    (t : FunctionType) × (slice_get m.types f.function_type ≡ Some t)
    × WouldHaveBody (module_context m functions) t f.code

-- the expression would be a constant of this type if more globals were defined
abbrev pub WouldBeConstant : List GlobalType → List Instruction → ValueType → Type 0
WouldBeConstant globals expression t =
    (more : List GlobalType) × IsConstant (globals ++ more) expression t

-- a global would begin with a constant of its type
abbrev pub WouldBeGlobal : Module → Global → Type 0
WouldBeGlobal m g = WouldBeConstant (imported_globals m.imports) g.initial g.global_type.value_type

-- the start function would take and give nothing if more functions were defined
abbrev pub WouldBeStart : List FunctionType → Option ℕ → Type 0
WouldBeStart functions start = (more : List FunctionType) × IsStartValid (functions ++ more) start

-- initial values, the start function, offsets and bodies would have their types
pub record WouldBeTyped (m : Module) (functions : List FunctionType) : Type 0 where
  pub globals : AllByRecursion (WouldBeGlobal m) m.globals
  pub start : WouldBeStart functions m.start
  pub elements :
      AllByRecursion (λ (e : Element). WouldBeConstant (globals_of m) e.offset I32) m.elements
  pub data_segments :
      AllByRecursion (λ (d : Data). WouldBeConstant (globals_of m) d.offset I32) m.data_segments
  pub bodies : AllByRecursion (WouldHaveType m functions) m.functions

-- ---- faults

-- The module has this fault. `Typing`: each function has a type, and something has a
-- wrong one, which nothing more that were defined would mend. `Index`: an index is not defined.
-- `Limits`: a limit doesn't hold. `DuplicateExport`: two exports have one name. `Memory` says
-- nothing of the module.
abbrev pub HasFault : Module → ValidFault → Type 0
HasFault m Typing =
    (functions : List FunctionType) × AreFunctionTypes m functions × (WouldBeTyped m functions → ⊥)
HasFault m Index =
    (functions : List FunctionType) → AreFunctionTypes m functions
    → AreIndicesDefined m functions → ⊥
HasFault m Limits = AreLimitsKept m → ⊥
HasFault m DuplicateExport = HaveDistinctNames m.exports → ⊥
HasFault m Memory = Unit {0}
