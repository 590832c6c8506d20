-- What is checked of a module beside the bodies of its functions.
use Rattle.std.specs.Prelude.{◌≡◌, ◌≤◌, ◌⊎◌, ℕ, true, false, List, [], ◌∷◌, length, Some, slice_get}
use Rattle.std.specs.List.{AllByRecursion}
use Rattle.wasm_syntax.specs.declared.types.ValueType.{ValueType}
use Rattle.wasm_syntax.specs.declared.types.ValueType.TheVariants.{I32}
use Rattle.wasm_syntax.specs.declared.types.FunctionType.{FunctionType}
use Rattle.wasm_syntax.specs.declared.types.GlobalType.{GlobalType}
use Rattle.wasm_syntax.specs.declared.types.Mutability.TheVariants.{Constant}
use Rattle.wasm_syntax.specs.declared.module.Module.{Module}
use Rattle.wasm_syntax.specs.declared.module.Export.{Export}
use Rattle.wasm_syntax.specs.declared.module.Function.{Function}
use Rattle.wasm_syntax.specs.declared.module.Global.{Global}
use Rattle.wasm_syntax.specs.declared.module.Element.{Element}
use Rattle.wasm_syntax.specs.declared.module.Data.{Data}
use Rattle.wasm_syntax.specs.declared.module.Import.{Import}
use Rattle.wasm_syntax.specs.declared.module.ImportItem.{ImportItem}
use Rattle.wasm_syntax.specs.declared.module.ImportItem.TheVariants as import
use Rattle.wasm_rules.specs.Validity.{IsFunctionTypeValid, IsTableTypeValid, IsMemoryTypeValid}
use Rattle.wasm_rules.specs.Validity.{IsGlobalValid, IsExportItemValid, HaveDistinctNames}
use Rattle.wasm_rules.specs.Validity.{IsStartValid, IsElementValid, IsDataValid, IsFunctionValid}
use Rattle.wasm_rules.specs.Validity.{IsIndex, IsValid, AreFunctionTypes, globals_of}
use Rattle.wasm_rules.specs.Validity.{module_context, tables_of, memories_of}
use Rattle.wasm_validate.specs.declared.parts.context.ModuleContext.{ModuleContext}
use Rattle.wasm_validate.specs.declared.parts.imports.Before.{Before}
use Rattle.wasm_validate.specs.declared.parts.fault.ValidFault.{ValidFault}
use Rattle.wasm_validate.specs.declared.parts.fault.ValidFault.TheVariants.{Index, Limits}
use Rattle.wasm_validate.specs.rules.Answers.{DeniesOne}
use Rattle.wasm_validate.specs.rules.Faults.{AreDataIndicesDefined, AreElementIndicesDefined}
use Rattle.wasm_validate.specs.rules.Faults.{IsFunctionAligned, AreFunctionIndicesDefined}
use Rattle.wasm_validate.specs.rules.Faults.{NamesGlobal, WouldBeConstant, WouldHaveType}
use Rattle.wasm_validate.specs.Parts.Contexts.{IsContextOf}

-- The context is this module's, whose functions have these types. It has one table and one memory
-- at most.
pub record IsModuleContext (m : Module) (functions : List FunctionType) (code : ModuleContext) :
    Type 0 where
  pub context : IsContextOf (module_context m functions) code
  pub one_table : length (tables_of m) ≤ 1
  pub one_memory : length (memories_of m) ≤ 1

-- ---- parts

-- the limits of an imported table, and of an imported memory
abbrev pub IsImportedTableValid : ImportItem → Type 0
IsImportedTableValid (import.Table t) = IsTableTypeValid t
IsImportedTableValid _ = Unit {0}

abbrev pub IsImportedMemoryValid : ImportItem → Type 0
IsImportedMemoryValid (import.Memory t) = IsMemoryTypeValid t
IsImportedMemoryValid _ = Unit {0}

-- what is asked of an import after others: the type of a function exists, limits are in order, and
-- a table or a memory is the first
abbrev pub IsImportItemValid : List FunctionType → Before → ImportItem → Type 0
IsImportItemValid types before (import.Function x) = IsIndex types x
IsImportItemValid types before (import.Table t) = IsTableTypeValid t × (before.table ≡ false)
IsImportItemValid types before (import.Memory t) = IsMemoryTypeValid t × (before.memory ≡ false)
IsImportItemValid types before (import.Global t) = Unit {0}

-- what was imported, with one import more
abbrev pub with_import : Before → ImportItem → Before
with_import before (import.Table t) = record before { table = true }
with_import before (import.Memory t) = record before { memory = true }
with_import before item = before

-- nothing was imported
abbrev pub nothing_before : Before
nothing_before = record { table = false; memory = false }

-- each of these imports is valid after those before
abbrev pub AreImportsValid : List FunctionType → Before → List Import → Type 0
AreImportsValid types before [] = Unit {0}
AreImportsValid types before (i ∷ imports) =
    IsImportItemValid types before i.item
    × AreImportsValid types (with_import before i.item) imports

-- what is told of an import that isn't valid
abbrev pub import_fault : ImportItem → ValidFault
import_fault (import.Function x) = Index
import_fault (import.Table t) = Limits
import_fault (import.Memory t) = Limits
import_fault (import.Global t) = Limits

-- the fault of the first import that isn't valid
abbrev pub IsFirstImportFault : List FunctionType → Before → List Import → ValidFault → Type 0
IsFirstImportFault types before [] fault = ⊥
IsFirstImportFault types before (i ∷ imports) fault =
    ((IsImportItemValid types before i.item → ⊥) × (fault ≡ import_fault i.item))
    ⊎ (IsImportItemValid types before i.item
    × IsFirstImportFault types (with_import before i.item) imports fault)

-- types, and then imports
abbrev pub AreTypesValid : Module → Type 0
AreTypesValid m =
    AllByRecursion IsFunctionTypeValid m.types × AreImportsValid m.types nothing_before m.imports

-- the first fault of them
abbrev pub IsFirstTypeFault : Module → ValidFault → Type 0
IsFirstTypeFault m fault =
    ((AllByRecursion IsFunctionTypeValid m.types → ⊥) × (fault ≡ Limits))
    ⊎ (AllByRecursion IsFunctionTypeValid m.types
    × IsFirstImportFault m.types nothing_before m.imports fault)

abbrev pub IsConstantGlobal : List GlobalType → ℕ → ValueType → Type 0
IsConstantGlobal globals x t = (g : GlobalType) × (slice_get globals x ≡ Some g)
    × (g.mutability ≡ Constant) × (g.value_type ≡ t)

-- what a fault says of initial values in which these globals may be
abbrev pub IsFaultInGlobals : List GlobalType → List Global → ValidFault → Type 0
IsFaultInGlobals imported globals e =
    DeniesOne e (AllByRecursion
    (λ (g : Global). WouldBeConstant imported g.initial g.global_type.value_type) globals)
    (AllByRecursion (λ (g : Global). NamesGlobal imported g.initial) globals) (Unit {0})

-- what a fault says of an element segment, and of some
abbrev pub IsFaultOfElement : Module → List FunctionType → Element → ValidFault → Type 0
IsFaultOfElement m functions s e =
    DeniesOne e (WouldBeConstant (globals_of m) s.offset I32)
    (AreElementIndicesDefined m functions s) (Unit {0})

abbrev pub IsFaultInElements : Module → List FunctionType → List Element → ValidFault → Type 0
IsFaultInElements m functions ss e =
    DeniesOne e (AllByRecursion (λ (s : Element). WouldBeConstant (globals_of m) s.offset I32) ss)
    (AllByRecursion (AreElementIndicesDefined m functions) ss) (Unit {0})

-- what a fault says of a data segment, and of some
abbrev pub IsFaultOfData : Module → Data → ValidFault → Type 0
IsFaultOfData m s e =
    DeniesOne e (WouldBeConstant (globals_of m) s.offset I32) (AreDataIndicesDefined m s) (Unit {0})

abbrev pub IsFaultInData : Module → List Data → ValidFault → Type 0
IsFaultInData m ss e =
    DeniesOne e (AllByRecursion (λ (s : Data). WouldBeConstant (globals_of m) s.offset I32) ss)
    (AllByRecursion (AreDataIndicesDefined m) ss) (Unit {0})

-- what a fault says of a function, and of some
abbrev pub IsFaultOfFunction : Module → List FunctionType → Function → ValidFault → Type 0
IsFaultOfFunction m functions f e =
    DeniesOne e (WouldHaveType m functions f) (AreFunctionIndicesDefined m functions f)
    (IsFunctionAligned f)

abbrev pub IsFaultInFunctions : Module → List FunctionType → List Function → ValidFault → Type 0
IsFaultInFunctions m functions fs e =
    DeniesOne e (AllByRecursion (WouldHaveType m functions) fs)
    (AllByRecursion (AreFunctionIndicesDefined m functions) fs)
    (AllByRecursion IsFunctionAligned fs)

-- ---- modules

-- what is checked before data segments: all that validity asks but those and bodies
pub record IsValidBeforeData (m : Module) (functions : List FunctionType) : Type 0 where
  pub types : AllByRecursion IsFunctionTypeValid m.types
  pub tables : AllByRecursion IsTableTypeValid (tables_of m)
  pub memories : AllByRecursion IsMemoryTypeValid (memories_of m)
  pub one_table : length (tables_of m) ≤ 1
  pub one_memory : length (memories_of m) ≤ 1
  pub globals : AllByRecursion (IsGlobalValid m) m.globals
  pub exports : AllByRecursion (λ (e : Export). IsExportItemValid m functions e.item) m.exports
  pub names : HaveDistinctNames m.exports
  pub start : IsStartValid functions m.start
  pub elements : AllByRecursion (IsElementValid m functions) m.elements

-- what is checked of data segments
abbrev pub AreDataValid : Module → Type 0
AreDataValid m = AllByRecursion (IsDataValid m) m.data_segments

-- all of it but the bodies
pub record IsValidButBodies (m : Module) (functions : List FunctionType) : Type 0 where
  pub function_types : AreFunctionTypes m functions
  pub before : IsValidBeforeData m functions
  pub after : AreDataValid m

-- the parts and the bodies are all of validity
abbrev pub PartsGiveValid : Type 0
PartsGiveValid = (m : Module) (functions : List FunctionType) → IsValidButBodies m functions
    → AllByRecursion (IsFunctionValid m functions) m.functions → IsValid m

abbrev pub ValidGivesParts : Type 0
ValidGivesParts = (m : Module) (functions : List FunctionType) → AreFunctionTypes m functions
    → IsValid m → IsValidButBodies m functions
    × AllByRecursion (IsFunctionValid m functions) m.functions

abbrev pub WasValidBeforeData : Module → Type 0
WasValidBeforeData m = (functions : List FunctionType) × AreFunctionTypes m functions
    × IsValidBeforeData m functions
