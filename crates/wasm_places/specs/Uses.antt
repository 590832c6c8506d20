-- What is found while the functions of a module are read.
use Rattle.std.specs.Prelude.{◌≡◌, ℕ, List, [], ◌∷◌, ◌++◌, length, Option, Some, None, option_map}
use Rattle.std.specs.List.{flat_map}
use Rattle.wasm_syntax.specs.declared.module.Import.{Import}
use Rattle.wasm_syntax.specs.laws.ReadingItems.{leb_u32_at, read_as, vector_at}
use Rattle.wasm_syntax.specs.laws.ReadingModules.{field_at, import_at}
use Rattle.wasm_syntax.specs.rules.Modules.{Section, body_of}
use Rattle.wasm_places.specs.declared.sections.FunctionSections.{FunctionSections}
use Rattle.wasm_places.specs.declared.uses.Declared.{Declared}
use Rattle.wasm_places.specs.declared.uses.Declaring.{Declaring}
use Rattle.wasm_places.specs.declared.uses.Declaring.TheVariants.{Imports, Own}
use Rattle.wasm_places.specs.declared.uses.Search.{Search}
use Rattle.wasm_places.specs.declared.uses.TypedFunction.{TypedFunction}
use Rattle.wasm_places.specs.Parts.{part_bytes}
use Rattle.wasm_places.specs.rules.Uses.{AreAllSections, DeclaredFunction, DeclaresFunctions}
use Rattle.wasm_places.specs.rules.Uses.{IsFirstOfType, LacksType, imported_function, names_in}
use Rattle.wasm_places.specs.rules.Uses.{own_function}

-- ---- sections

-- not all bytes are a header and sections
abbrev pub LacksSections : List ℕ → Type 0
LacksSections bytes = (sections : List Section) → AreAllSections bytes sections → ⊥

-- they are, and these are the two sections that say which functions there are
pub record HoldsFunctionSections (bytes : List ℕ) (d : FunctionSections) : Type 0 where
  pub sections : List Section
  pub are : AreAllSections bytes sections
  pub imports_are : body_of 2 sections ≡ part_bytes d.imports
  pub function_types_are : body_of 3 sections ≡ part_bytes d.function_types
  pub only : (others : List Section) → AreAllSections bytes others → others ≡ sections

-- ---- items of such a section, and the functions that they are

-- an import, or the number of a type
abbrev pub ItemOf : Declaring → Type 0
ItemOf Imports = Import
ItemOf Own = ℕ

-- the next one
abbrev pub item_at : (d : Declaring) → List ℕ → Option (ItemOf d × List ℕ)
item_at Imports bytes = import_at bytes
item_at Own bytes = leb_u32_at bytes

-- the function that it is, if it is one
abbrev pub item_functions : (d : Declaring) → ItemOf d → List DeclaredFunction
item_functions Imports i = imported_function i
item_functions Own t = own_function t ∷ []

-- the next one, as such a function
abbrev pub declared_at : Declaring → List ℕ → Option (List DeclaredFunction × List ℕ)
declared_at d bytes = read_as (item_functions d) (item_at d) bytes

-- such a function
abbrev pub declared_in : Option Declared → List DeclaredFunction
declared_in (Some f) = record { function_type = f.function_type; names = names_in f.names } ∷ []
declared_in None = []

-- the functions of a section, by its bytes: none without it
abbrev pub declared_functions : Declaring → Option (List ℕ) → Option (List DeclaredFunction)
declared_functions d section =
    option_map (flat_map (item_functions d)) (field_at (vector_at (item_at d)) [] section)

-- ---- the search

-- the first of these functions with the wanted type, or none has it
abbrev pub FindsFirst : ℕ → List DeclaredFunction → Option TypedFunction → Type 0
FindsFirst wanted functions (Some first) = IsFirstOfType wanted functions first
FindsFirst wanted functions None = LacksType wanted functions

-- so many functions were read, and that is the first of them with the wanted type
abbrev pub IsSearched : ℕ → List DeclaredFunction → Search → Type 0
IsSearched wanted functions search =
    (search.functions ≡ length functions) × FindsFirst wanted functions search.found

-- One search goes on behind the other: these functions are read, too.
abbrev pub SearchesOn : ℕ → Search → List DeclaredFunction → Search → Type 0
SearchesOn wanted before functions search = (earlier : List DeclaredFunction)
    → IsSearched wanted earlier before → IsSearched wanted (earlier ++ functions) search

-- So it does with the functions of a section. Or they can't be read.
abbrev pub SearchesIn : ℕ → Search → Option (List DeclaredFunction) → Option Search → Type 0
SearchesIn wanted before functions None = functions ≡ None
SearchesIn wanted before functions (Some search) =
    (read : List DeclaredFunction) × (functions ≡ Some read) × SearchesOn wanted before read search

-- all functions of a module are searched, or they can't be read
abbrev pub SearchesAll : List ℕ → ℕ → Option Search → Type 0
SearchesAll bytes wanted None =
    (functions : List DeclaredFunction) → DeclaresFunctions bytes functions → ⊥
SearchesAll bytes wanted (Some search) = (functions : List DeclaredFunction)
    × DeclaresFunctions bytes functions × IsSearched wanted functions search
