-- When a valid module can be linked to a host and begin (Core Specification 1.0, sections 4.5.2 and
-- 4.5.4).
use Rattle.std.specs.Prelude.{◌≡◌, ◌⊎◌, ℕ, ◌≤◌, List, [], ◌∷◌, Option, Some, None, slice_get, codes}
use Rattle.std.specs.List.{AllByRecursion}
use Rattle.wasm_syntax.specs.declared.types.FunctionType.{FunctionType}
use Rattle.wasm_syntax.specs.declared.types.MemoryType.{MemoryType}
use Rattle.wasm_syntax.specs.declared.module.Module.{Module}
use Rattle.wasm_syntax.specs.declared.module.Import.{Import}
use Rattle.wasm_syntax.specs.declared.module.ImportItem.{ImportItem}
use Rattle.wasm_syntax.specs.declared.module.ImportItem.TheVariants as import
use Rattle.wasm_syntax.specs.declared.module.Export.{Export}
use Rattle.wasm_syntax.specs.declared.module.ExportItem.{ExportItem}
use Rattle.wasm_syntax.specs.declared.module.ExportItem.TheVariants as export
use Rattle.wasm_rules.specs.Validity.{AreFunctionTypes, memories_of}
use Rattle.wasm_rules.specs.Configuration.{Store}
use Rattle.wasm_rules.specs.Instantiation.{IsInitialStore}

-- What the host offers: under a module's name and a name, a function of a type, or nothing.
abbrev pub Offer : Type 0
Offer = List ℕ → List ℕ → Option FunctionType

-- the import is of a function that the host offers with this type
abbrev pub IsItemOffered : Option FunctionType → List FunctionType → ImportItem → Type 0
IsItemOffered None types item = ⊥
IsItemOffered (Some signature) types (import.Function x) = slice_get types x ≡ Some signature
IsItemOffered (Some signature) types _ = ⊥

-- the host offers what this import is of
abbrev pub IsOffered : Offer → List FunctionType → Import → Type 0
IsOffered offer types i = IsItemOffered (offer i.module_name i.name) types i.item

-- this item is exported under this name
abbrev pub Exports : List Export → List ℕ → ExportItem → Type 0
Exports [] name item = ⊥
Exports (e ∷ exports) name item = ((e.name ≡ name) × (e.item ≡ item)) ⊎ Exports exports name item

-- a function without parameters and results is exported as `_start`
pub record HasEntry (m : Module) (entry : ℕ) : Type 0 where
  pub functions : List FunctionType
  pub signature : FunctionType
  pub exported : Exports m.exports (codes "_start") (export.Function entry)
  pub function_types : AreFunctionTypes m functions
  pub is : slice_get functions entry ≡ Some signature
  pub no_parameters : signature.parameters ≡ []
  pub no_results : signature.results ≡ []

-- the memory is exported as `memory`
pub record HasExportedMemory (m : Module) : Type 0 where
  pub index : ℕ
  pub exported : Exports m.exports (codes "memory") (export.Memory index)

-- the memory's minimum is within so many pages
abbrev pub FitsPages : List MemoryType → ℕ → Type 0
FitsPages memories pages = AllByRecursion (λ (t : MemoryType). t.limits.minimum ≤ pages) memories

-- what can be linked under so many pages
pub record IsLinkable (offer : Offer) (pages : ℕ) (m : Module) : Type 0 where
  pub entry : ℕ
  pub store : Store
  pub has_entry : HasEntry m entry
  pub has_memory : HasExportedMemory m
  pub imports : AllByRecursion (IsOffered offer m.types) m.imports
  -- every segment is inside
  pub segments : IsInitialStore m store
  pub fits : FitsPages (memories_of m) pages
