-- Which function has a type first (this project's own, in the words of the binary grammar).
use Rattle.std.specs.Prelude.{◌≡◌, ◌≢◌, ℕ, List, [], ◌∷◌, ◌++◌, length, map, Option, Some, None}
use Rattle.std.specs.List.{AllByRecursion, flat_map}
use Rattle.wasm_syntax.specs.declared.module.Import.{Import}
use Rattle.wasm_syntax.specs.declared.module.ImportItem.{ImportItem}
use Rattle.wasm_syntax.specs.declared.module.ImportItem.TheVariants as import
use Rattle.wasm_syntax.specs.rules.Items.{AreItems, IsU32, IsVector}
use Rattle.wasm_syntax.specs.rules.Modules.{Section, IsSection, IsImport, IsField, preamble}
use Rattle.wasm_places.specs.declared.imports.ImportNames.{ImportNames}
use Rattle.wasm_places.specs.declared.uses.TypeUse.{TypeUse}
use Rattle.wasm_places.specs.declared.uses.TypeUse.TheVariants as used
use Rattle.wasm_places.specs.declared.uses.TypedFunction.{TypedFunction}

-- ---- the functions of a module

-- a function: the number of its type, and the two names of its import, if it is imported
pub record DeclaredFunction : Type 0 where
  pub function_type : ℕ
  pub names : Option (List ℕ × List ℕ)

-- the function that an import with these names is, if it is one
abbrev pub function_with : List ℕ → List ℕ → ImportItem → List DeclaredFunction
function_with module_name name (import.Function t) =
    record { function_type = t; names = Some (module_name, name) } ∷ []
function_with module_name name (import.Table t) = []
function_with module_name name (import.Memory t) = []
function_with module_name name (import.Global t) = []

-- the same of an import
abbrev pub imported_function : Import → List DeclaredFunction
imported_function i = function_with i.module_name i.name i.item

-- a function of the module's own, with the type of this number
abbrev pub own_function : ℕ → DeclaredFunction
own_function t = record { function_type = t; names = None }

-- All bytes are a header and these sections.
abbrev pub AreAllSections : List ℕ → List Section → Type 0
AreAllSections bytes sections =
    (after : List ℕ) × (bytes ≡ preamble ++ after) × AreItems IsSection after sections []

-- These are the functions of a module by its sections of imports and of functions: the imported
-- ones first. What its other sections hold doesn't matter.
pub record DeclaresFunctions (bytes : List ℕ) (functions : List DeclaredFunction) : Type 0 where
  pub sections : List Section
  pub are : AreAllSections bytes sections
  pub imports : List Import
  pub imported : IsField sections 2 (IsVector IsImport) [] imports
  pub own : List ℕ
  pub declared : IsField sections 3 (IsVector IsU32) [] own
  pub functions_are : functions ≡ flat_map imported_function imports ++ map own_function own

-- ---- the first one with a type

-- none of these functions has the type of this number
abbrev pub LacksType : ℕ → List DeclaredFunction → Type 0
LacksType wanted functions = AllByRecursion (λ f. f.function_type ≢ wanted) functions

-- the two names of an import, if there is one
abbrev pub names_in : Option ImportNames → Option (List ℕ × List ℕ)
names_in (Some names) = Some (names.module_name.now, names.name.now)
names_in None = None

-- This one of the functions has the type of this number, and none before it has.
pub record IsFirstOfType (wanted : ℕ) (functions : List DeclaredFunction) (first : TypedFunction)
    : Type 0 where
  pub before : List DeclaredFunction
  pub behind : List DeclaredFunction
  pub is : functions ≡ before
      ++ record { function_type = wanted; names = names_in first.names } ∷ behind
  pub number_is : first.number ≡ length before
  pub others : LacksType wanted before

-- Which function of a module has the type of this number first: this one, or none. Or its functions
-- can't be read.
abbrev pub IsTypeUse : List ℕ → ℕ → TypeUse → Type 0
IsTypeUse bytes wanted (used.First first) = (functions : List DeclaredFunction)
    × DeclaresFunctions bytes functions × IsFirstOfType wanted functions first
IsTypeUse bytes wanted used.Unused = (functions : List DeclaredFunction)
    × DeclaresFunctions bytes functions × LacksType wanted functions
IsTypeUse bytes wanted used.Unread =
    (functions : List DeclaredFunction) → DeclaresFunctions bytes functions → ⊥
