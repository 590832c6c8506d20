-- What is told of floats in the bytes of a module (this project's own).
use Rattle.std.specs.Prelude.{◌≡◌, ◌==◌, ℕ, ◌<◌, ◌^◌, List, [], ◌++◌, codes, Option, Some, None}
use Rattle.std.specs.Prelude.{slice_get, if◌then◌else◌, MatchOption, ⊤}
use Rattle.std.specs.Fmt.{decimal}
use Rattle.wasm_places.specs.declared.place.ModulePlace.{ModulePlace}
use Rattle.wasm_places.specs.declared.place.ModulePlace.TheVariants as place
use Rattle.wasm_places.specs.declared.uses.TypedFunction.{TypedFunction}
use Rattle.wasm_places.specs.declared.uses.TypeUse.{TypeUse}
use Rattle.wasm_places.specs.declared.uses.TypeUse.TheVariants as used
use Rattle.wasm_places.specs.rules.Floats.{float_words}
use Rattle.wasm_places.specs.rules.Places.{LiesAt}
use Rattle.wasm_places.specs.rules.Uses.{IsTypeUse, names_in}
use Rattle.command_words.specs.rules.FunctionNames.{IsNameIn, name_words}
use Rattle.command_words.specs.rules.Printers.{PrinterState, IsPrinted}

-- what the section with this id holds (Core Specification 1.0, section 5.5.2)
abbrev pub section_word : ℕ → List ℕ
section_word id =
    if id == 0 then codes "custom"
    else if id == 1 then codes "type"
    else if id == 2 then codes "import"
    else if id == 3 then codes "function"
    else if id == 4 then codes "table"
    else if id == 5 then codes "memory"
    else if id == 6 then codes "global"
    else if id == 7 then codes "export"
    else if id == 8 then codes "start"
    else if id == 9 then codes "element"
    else if id == 10 then codes "code"
    else codes "data"

-- the names of an import, if it is one
abbrev pub names_text : Option (List ℕ × List ℕ) → List ℕ
names_text (Some names) = codes ", import " ++ names.0 ++ codes "." ++ names.1
names_text None = []

-- a function that has a type: `of function 12`, with the names of its import, if it is imported
abbrev pub first_text : TypedFunction → List ℕ
first_text first =
    codes " of function " ++ decimal first.number ++ names_text (names_in first.names)

-- which function has a type first, where that is known
abbrev pub use_text : TypeUse → List ℕ
use_text (used.First first) = first_text first
use_text used.Unused = codes " of no function"
use_text used.Unread = []

-- the number of a type, and which function has it first
abbrev pub type_text : ℕ → TypeUse → List ℕ
type_text number found = codes " in type " ++ decimal number ++ use_text found

-- A place, if there is one: `in function 12 (compute)`, where it has a name. A type comes with the
-- function that has it first.
abbrev pub place_text : Option ModulePlace → Option (List ℕ) → TypeUse → List ℕ
place_text (Some (place.Function number)) name found =
    codes " in function " ++ decimal number ++ name_words name
place_text (Some (place.Type number)) name found = type_text number found
place_text (Some (place.Section id)) name found =
    codes " in the " ++ section_word id ++ codes " section"
place_text None name found = []

-- Where the place is a function that can be named, the module has this name for it, or none that
-- may be printed.
abbrev pub IsNameAt : List ℕ → Option ModulePlace → Option (List ℕ) → Type 0
IsNameAt bytes (Some (place.Function number)) name =
    number < 2 ^ 32 → IsNameIn (Some bytes) number name
IsNameAt bytes (Some (place.Type number)) name = ⊤
IsNameAt bytes (Some (place.Section id)) name = ⊤
IsNameAt bytes None name = ⊤

-- Where the place is a type, that function has it first, or none has, or it can't be read.
abbrev pub IsUseAt : List ℕ → Option ModulePlace → TypeUse → Type 0
IsUseAt bytes (Some (place.Type number)) found = IsTypeUse bytes number found
IsUseAt bytes (Some (place.Function number)) found = ⊤
IsUseAt bytes (Some (place.Section id)) found = ⊤
IsUseAt bytes None found = ⊤

-- where floats of C come from mostly, and how they are left out
abbrev pub float_hint : List ℕ
float_hint = codes "; in C printf has floats, but not with -lc-printscan-no-floating-point\n"

-- the name of what is at an offset, if it is of floats
abbrev pub float_at : List ℕ → ℕ → Option (List ℕ × List ℕ)
float_at bytes at = named (slice_get bytes at)
  where
    named : Option ℕ → Option (List ℕ × List ℕ)
    named (Some byte) = float_words byte
    named None = None

-- that name
abbrev pub float_name : Option (List ℕ × List ℕ) → List ℕ
float_name None = codes "a float"
float_name (Some name) = name.0 ++ name.1

-- That is printed of floats at this offset: the name of the opcode or of the type, its place, and
-- the hint. Where nothing there is of floats, nothing is printed.
abbrev pub TellsOfFloat : List ℕ → ℕ → PrinterState → PrinterState → Type 0
TellsOfFloat bytes at old new = MatchOption (float_at bytes at) (new ≡ old)
    (λ name. (lies : Option ModulePlace) × LiesAt bytes at lies
    × (found : TypeUse) × IsUseAt bytes lies found
    × (called : Option (List ℕ)) × IsNameAt bytes lies called
    × IsPrinted old new (name.0 ++ name.1 ++ place_text lies called found ++ float_hint))
