-- When a module is valid (Core Specification 1.0, sections 3.2 and 3.4).
use Rattle.std.specs.Prelude.{◌≡◌, ◌≢◌, ℕ, ◌^◌, ◌<◌, ◌≤◌, ◌⊎◌, List, [], ◌∷◌, ◌++◌, length, map}
use Rattle.std.specs.Prelude.{Option, Some, None, slice_get, IfSome}
use Rattle.std.specs.List.{AllByRecursion}
use Rattle.wasm_syntax.specs.declared.types.ValueType.{ValueType}
use Rattle.wasm_syntax.specs.declared.types.ValueType.TheVariants.{I32}
use Rattle.wasm_syntax.specs.declared.types.FunctionType.{FunctionType}
use Rattle.wasm_syntax.specs.declared.types.Limits.{Limits}
use Rattle.wasm_syntax.specs.declared.types.TableType.{TableType}
use Rattle.wasm_syntax.specs.declared.types.MemoryType.{MemoryType}
use Rattle.wasm_syntax.specs.declared.types.GlobalType.{GlobalType}
use Rattle.wasm_syntax.specs.declared.types.Mutability.TheVariants.{Constant}
use Rattle.wasm_syntax.specs.declared.value.Value.{Value}
use Rattle.wasm_syntax.specs.declared.instruction.Instruction.{Instruction}
use Rattle.wasm_syntax.specs.declared.instruction.Instruction.TheVariants as instr
use Rattle.wasm_syntax.specs.declared.module.Module.{Module}
use Rattle.wasm_syntax.specs.declared.module.Function.{Function}
use Rattle.wasm_syntax.specs.declared.module.Global.{Global}
use Rattle.wasm_syntax.specs.declared.module.Export.{Export}
use Rattle.wasm_syntax.specs.declared.module.ExportItem.{ExportItem}
use Rattle.wasm_syntax.specs.declared.module.ExportItem.TheVariants as export
use Rattle.wasm_syntax.specs.declared.module.Element.{Element}
use Rattle.wasm_syntax.specs.declared.module.Data.{Data}
use Rattle.wasm_syntax.specs.rules.Sequence.{Sequence, Spells}
use Rattle.wasm_syntax.specs.rules.Modules.{function_type_of}
use Rattle.guest_memory.specs.rules.Bytes.{IsByte}
use Rattle.wasm_rules.specs.Types.{IsOf, gives_of, imported_functions, imported_tables}
use Rattle.wasm_rules.specs.Types.{imported_memories, imported_globals, global_type_of}
use Rattle.wasm_rules.specs.Typing.{Context, HasType, body_context}

-- ---- types (3.2)

-- from a minimum to a maximum that is not below it, both within a range
abbrev pub AreLimits : Limits → ℕ → Type 0
AreLimits l range = (l.minimum ≤ range) × IfSome l.maximum (λ most. (l.minimum ≤ most)
    × (most ≤ range))

-- one result at most
abbrev pub IsFunctionTypeValid : FunctionType → Type 0
IsFunctionTypeValid f = length f.results ≤ 1

-- limits within range
abbrev pub IsTableTypeValid : TableType → Type 0
IsTableTypeValid t = AreLimits t.limits (2 ^ 32)

-- at most 65,536 pages
abbrev pub IsMemoryTypeValid : MemoryType → Type 0
IsMemoryTypeValid t = AreLimits t.limits (2 ^ 16)

-- ---- constant expressions (3.3.7)

-- one constant, or one constant global of those given
abbrev pub IsConstant : List GlobalType → List Instruction → ValueType → Type 0
IsConstant globals expression t =
    ((v : Value) × IsOf t v × (expression ≡ instr.Const v ∷ instr.End ∷ []))
    ⊎ ((x : ℕ) × (g : GlobalType) × (slice_get globals x ≡ Some g) × (g.mutability ≡ Constant)
    × (g.value_type ≡ t) × (expression ≡ instr.GlobalGet x ∷ instr.End ∷ []))

-- ---- the parts of a module (3.4)

-- these are the types at these indices
abbrev pub AreTypesAt : List FunctionType → List ℕ → List FunctionType → Type 0
AreTypesAt types [] [] = Unit {0}
AreTypesAt types (x ∷ indices) (f ∷ fs) = (slice_get types x ≡ Some f) × AreTypesAt types indices fs
AreTypesAt types [] (f ∷ fs) = ⊥
AreTypesAt types (x ∷ indices) [] = ⊥

-- the types of all functions, imported ones first
abbrev pub AreFunctionTypes : Module → List FunctionType → Type 0
AreFunctionTypes m functions =
    AreTypesAt m.types (imported_functions m.imports ++ map function_type_of m.functions) functions

-- all tables, imported ones first
abbrev pub tables_of : Module → List TableType
tables_of m = imported_tables m.imports ++ m.tables

-- all memories, imported ones first
abbrev pub memories_of : Module → List MemoryType
memories_of m = imported_memories m.imports ++ m.memories

-- all globals, imported ones first
abbrev pub globals_of : Module → List GlobalType
globals_of m = imported_globals m.imports ++ map global_type_of m.globals

-- what all bodies look up, where the module's functions have these types
abbrev pub module_context : Module → List FunctionType → Context
module_context m functions = record {
  types = m.types;
  functions = functions;
  tables = tables_of m;
  memories = memories_of m;
  globals = globals_of m;
  locals = [];
  returns = [];
}

-- The body spells a sequence that gives, from nothing on, what the function gives; a branch out of
-- it all gives that too (3.4.1).
abbrev pub IsFunctionValid : Module → List FunctionType → Function → Type 0
IsFunctionValid m functions f =
    (t : FunctionType) × (s : Sequence) × (slice_get m.types f.function_type ≡ Some t)
    × Spells f.code.body s
    × HasType (body_context (module_context m functions) t f.code.locals) (gives_of t
    ∷ []) s [] (gives_of t)

-- a global's first value is a constant expression of its type
abbrev pub IsGlobalValid : Module → Global → Type 0
IsGlobalValid m g = IsConstant (imported_globals m.imports) g.initial g.global_type.value_type

-- a number that names something in a list
abbrev pub IsIndex : {X : Type 0} → List X → ℕ → Type 0
IsIndex xs x = x < length xs

-- what is exported is there
abbrev pub IsExportItemValid : Module → List FunctionType → ExportItem → Type 0
IsExportItemValid m functions (export.Function x) = IsIndex functions x
IsExportItemValid m functions (export.Table x) = IsIndex (tables_of m) x
IsExportItemValid m functions (export.Memory x) = IsIndex (memories_of m) x
IsExportItemValid m functions (export.Global x) = IsIndex (globals_of m) x

-- no name comes twice
abbrev pub HaveDistinctNames : List Export → Type 0
HaveDistinctNames [] = Unit {0}
HaveDistinctNames (e ∷ exports) = AllByRecursion (λ (other : Export). e.name ≢ other.name) exports
    × HaveDistinctNames exports

-- the start function is there, and is from nothing to nothing
abbrev pub IsStartValid : List FunctionType → Option ℕ → Type 0
IsStartValid functions None = Unit {0}
IsStartValid functions (Some x) = (f : FunctionType) × (slice_get functions x ≡ Some f)
    × (f.parameters ≡ []) × (f.results ≡ [])

-- an element segment's table, offset and functions are valid
abbrev pub IsElementValid : Module → List FunctionType → Element → Type 0
IsElementValid m functions e = IsIndex (tables_of m) e.table
    × IsConstant (globals_of m) e.offset I32 × AllByRecursion (IsIndex functions) e.functions

-- a data segment's memory, offset and bytes are valid
abbrev pub IsDataValid : Module → Data → Type 0
IsDataValid m d = IsIndex (memories_of m) d.memory × IsConstant (globals_of m) d.offset I32
    × AllByRecursion IsByte d.bytes

-- ---- modules (3.4.10)

-- a module is valid
pub record IsValid (m : Module) : Type 0 where
  pub functions : List FunctionType
  pub types : AllByRecursion IsFunctionTypeValid m.types
  pub function_types : AreFunctionTypes m functions
  pub bodies : AllByRecursion (IsFunctionValid m functions) m.functions
  pub tables : AllByRecursion IsTableTypeValid (tables_of m)
  pub memories : AllByRecursion IsMemoryTypeValid (memories_of m)
  pub globals : AllByRecursion (IsGlobalValid m) m.globals
  pub exports : AllByRecursion (λ (e : Export). IsExportItemValid m functions e.item) m.exports
  pub names : HaveDistinctNames m.exports
  pub start : IsStartValid functions m.start
  pub elements : AllByRecursion (IsElementValid m functions) m.elements
  pub data_segments : AllByRecursion (IsDataValid m) m.data_segments
  pub one_table : length (tables_of m) ≤ 1
  pub one_memory : length (memories_of m) ≤ 1
