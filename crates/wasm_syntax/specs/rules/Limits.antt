-- The limits of this product on modules.
use Rattle.std.specs.Prelude.{ℕ, ◌+◌, ◌≤◌, List, length, count_by, Bool, true, false}
use Rattle.std.specs.List.{AllByRecursion}
use Rattle.wasm_syntax.specs.declared.types.FunctionType.{FunctionType}
use Rattle.wasm_syntax.specs.declared.types.TableType.{TableType}
use Rattle.wasm_syntax.specs.declared.instruction.Instruction.{Instruction}
use Rattle.wasm_syntax.specs.declared.module.Module.{Module}
use Rattle.wasm_syntax.specs.declared.module.Import.{Import}
use Rattle.wasm_syntax.specs.declared.module.ImportItem.{ImportItem}
use Rattle.wasm_syntax.specs.declared.module.ImportItem.TheVariants as import
use Rattle.wasm_syntax.specs.declared.module.Function.{Function}
use Rattle.wasm_syntax.specs.declared.module.Global.{Global}
use Rattle.wasm_syntax.specs.declared.module.Element.{Element}
use Rattle.wasm_syntax.specs.declared.module.Data.{Data}
use Rattle.wasm_syntax.specs.rules.Modules.{IsModule}
use Rattle.wasm_syntax.specs.declared.limits.TheConstants.{MODULE_BYTES, FUNCTIONS, INSTRUCTIONS}
use Rattle.wasm_syntax.specs.declared.limits.TheConstants.{PARAMETERS, LOCALS, TABLE_ENTRIES}
use Rattle.wasm_syntax.specs.declared.limits.TheConstants.{GLOBALS}

-- an import of a function
abbrev pub is_function : Import → Bool
is_function i = is_function_item i.item
  where
    is_function_item : ImportItem → Bool
    is_function_item (import.Function t) = true
    is_function_item _ = false

-- so many opcodes at most
abbrev pub IsShortExpression : List Instruction → Type 0
IsShortExpression expression = length expression ≤ INSTRUCTIONS

-- so many parameters at most
abbrev pub HasFewParameters : FunctionType → Type 0
HasFewParameters t = length t.parameters ≤ PARAMETERS

-- so many entries at most
abbrev pub IsSmallTable : TableType → Type 0
IsSmallTable t = t.limits.minimum ≤ TABLE_ENTRIES

-- an imported table has so many entries at most
abbrev pub IsSmallImport : ImportItem → Type 0
IsSmallImport (import.Table t) = IsSmallTable t
IsSmallImport _ = Unit {0}

-- so many locals and opcodes at most
abbrev pub IsSmallFunction : Function → Type 0
IsSmallFunction f = (length f.code.locals ≤ LOCALS) × IsShortExpression f.code.body

-- the limits that linking and running rest on: those on types and on bodies
pub record IsLimited (m : Module) : Type 0 where
  pub types : AllByRecursion HasFewParameters m.types
  pub bodies : AllByRecursion IsSmallFunction m.functions

-- all of the product's limits on a module and its bytes
pub record IsWithinLimits (bytes : List ℕ) (m : Module) : Type 0 where
  pub size : length bytes ≤ MODULE_BYTES
  pub types : AllByRecursion HasFewParameters m.types
  pub imports : AllByRecursion (λ (i : Import). IsSmallImport i.item) m.imports
  pub functions : count_by is_function m.imports + length m.functions ≤ FUNCTIONS
  pub bodies : AllByRecursion IsSmallFunction m.functions
  pub tables : AllByRecursion IsSmallTable m.tables
  pub globals : length m.globals ≤ GLOBALS
  pub initials : AllByRecursion (λ (g : Global). IsShortExpression g.initial) m.globals
  pub element_offsets : AllByRecursion (λ (e : Element). IsShortExpression e.offset) m.elements
  pub data_offsets : AllByRecursion (λ (d : Data). IsShortExpression d.offset) m.data_segments

-- no module within the limits is spelled by these bytes
abbrev pub HasNoModule : List ℕ → Type 0
HasNoModule bytes = (m : Module) → IsModule bytes m → IsWithinLimits bytes m → ⊥
