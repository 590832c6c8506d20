-- Names of functions, as the code has them.
use Rattle.std.specs.Prelude.{ℕ, List, Option, Some}
use Rattle.wasm_syntax.specs.laws.ReadingItems.{◌>>=◌, leb_u32_at, name_at}
use Rattle.wasm_places.specs.declared.function_names.NameEntry.{NameEntry}
use Rattle.wasm_syntax.specs.rules.Modules.{Section}
use Rattle.wasm_places.specs.rules.FunctionNames.{FunctionName, HasSection, SectionNames}
use Rattle.wasm_places.specs.rules.FunctionNames.{SubsectionNames}

-- the entry that this one is
abbrev pub function_name_with : NameEntry → FunctionName
function_name_with e = record { function = e.function; name = e.name.now }

-- an entry, read from the front
unfoldable pub function_name_at : List ℕ → Option (FunctionName × List ℕ)
function_name_at bytes =
    leb_u32_at bytes >>= λ function. name_at function.1
    >>= λ name. Some (record { function = function.0; name = name.0 }, name.1)

-- ---- where a function has a name

-- in this subsection
abbrev pub InSubsection : ℕ → Section → List ℕ → Type 0
InSubsection function s name = SubsectionNames function name s

-- in one of these subsections
abbrev pub InSubsections : ℕ → List ℕ → List ℕ → Type 0
InSubsections function subsections name = HasSection (SubsectionNames function name) subsections

-- in this section of a module
abbrev pub InSection : ℕ → Section → List ℕ → Type 0
InSection function s name = SectionNames function name s
