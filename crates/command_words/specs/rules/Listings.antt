-- What is told of all that is in the way of a module (this project's own).
use Rattle.std.specs.Prelude.{◌≡◌, ◌⊎◌, ℕ, ◌+◌, List, [], ◌∷◌, ◌++◌, codes, count_by, Option}
use Rattle.std.specs.Prelude.{Some, None, MatchOption}
use Rattle.std.specs.List.{flat_map}
use Rattle.std.specs.Fmt.{decimal}
use Rattle.wasm_syntax.specs.declared.types.FunctionType.{FunctionType}
use Rattle.wasm_syntax.specs.declared.module.Import.{Import}
use Rattle.wasm_syntax.specs.rules.Limits.{is_function}
use Rattle.wasm_decode.specs.declared.fault.DecodeFault.{DecodeFault}
use Rattle.wasm_decode.specs.declared.fault.DecodeFault.TheVariants as decode
use Rattle.wasm_decode.specs.declared.code_faults.CodeFault.{CodeFault}
use Rattle.wasm_decode.specs.declared.code_faults.CodeFaults.{CodeFaults}
use Rattle.wasm_decode.specs.rules.Parts.{HasTypes, HasImports, HasCodeFaults, LacksPart}
use Rattle.wasm_places.specs.declared.place.ModulePlace.{ModulePlace}
use Rattle.wasm_places.specs.rules.Places.{LiesAt}
use Rattle.wasi_abi.specs.declared.call.Call.{Call}
use Rattle.machine.specs.declared.instance.fault.LinkFault.TheVariants as link
use Rattle.machine.specs.rules.Offers.{imported_call}
use Rattle.machine.specs.declared.from_bytes.fault.ModuleFault.{ModuleFault}
use Rattle.machine.specs.declared.from_bytes.fault.ModuleFault.TheVariants.{Decode, Valid, Link}
use Rattle.command_words.specs.rules.Floats.{TellsOfFloat, float_at, float_name}
use Rattle.command_words.specs.rules.ModuleLimits.{function_of, passed_text}
use Rattle.command_words.specs.rules.Printers.{PrinterState, IsPrinted}
use Rattle.command_words.specs.rules.Verdicts.{IsImportOffered, TellsMore, import_text}

-- ---- imports

-- The import isn't in the way: it is offered. Where the types aren't known, it has the names of a
-- call.
abbrev pub IsAllowed : Option (List FunctionType) → Import → Type 0
IsAllowed (Some types) i = IsImportOffered types i
IsAllowed None i = (call : Call) × (imported_call i ≡ Some call)

-- those of the imports that are in the way, in their order
abbrev pub AreInTheWay : Option (List FunctionType) → List Import → List Import → Type 0
AreInTheWay types [] refused = refused ≡ []
AreInTheWay types (i ∷ imports) refused =
    (IsAllowed types i × AreInTheWay types imports refused)
    ⊎ ((IsAllowed types i → ⊥) × (others : List Import) × (refused ≡ i ∷ others)
    × AreInTheWay types imports others)

-- what is wrong with an import that is in the way
abbrev pub refusal_words : Option Call → List ℕ
refusal_words None = codes " isn't one of the 31 calls\n"
refusal_words (Some call) = codes " has another type than this call\n"

-- the line of such an import
abbrev pub import_line : Import → List ℕ
import_line i = import_text i (refusal_words (imported_call i))

-- That is printed of the imports that are in the way.
abbrev pub TellsImports : Option (List FunctionType) → List Import → PrinterState → PrinterState
    → Type 0
TellsImports types imports old new = (refused : List Import) × AreInTheWay types imports refused
    × IsPrinted old new (flat_map import_line refused)

-- ---- functions

-- the line of a fault in the function with this number: `f64.add in function 12`
abbrev pub fault_text : List ℕ → ℕ → DecodeFault → List ℕ
fault_text bytes number (decode.Float at) =
    float_name (float_at bytes at) ++ codes " in function " ++ decimal number ++ codes "\n"
fault_text bytes number (decode.Limit passed) = passed_text passed (Some number)
fault_text bytes number (decode.Malformed at) =
    codes "malformed at byte " ++ decimal at ++ codes ", in function " ++ decimal number
    ++ codes "\n"
fault_text bytes number decode.Memory = []

-- the line of a code entry's fault, where so many functions are imported
abbrev pub code_line : List ℕ → ℕ → CodeFault → List ℕ
code_line bytes imported fault = fault_text bytes (imported + fault.number) fault.why

-- ---- the end of a list that isn't whole

-- the line that says so
abbrev pub end_text : DecodeFault → List ℕ
end_text (decode.Malformed at) =
    codes "no more is listed: B1 Malformed at " ++ decimal at ++ codes "\n"
end_text (decode.Float at) = codes "no more is listed: B2 Float at " ++ decimal at ++ codes "\n"
end_text (decode.Limit passed) =
    codes "no more is listed: B3 Limit at " ++ decimal passed.at ++ codes "\n"
end_text decode.Memory = codes "no more is listed: B4 Memory\n"

-- the same, if there is a fault
abbrev pub list_end : Option DecodeFault → List ℕ
list_end None = []
list_end (Some fault) = end_text fault

-- ---- all lines

-- The module has no such part, unless for want of memory, and the list ends.
abbrev pub EndsList : {X : Type 0} → (X → Type 0) → PrinterState → PrinterState → Type 0
EndsList IsPart old new = (fault : DecodeFault) × LacksPart IsPart fault
    × IsPrinted old new (end_text fault)

-- the lines of functions, where so many are imported
abbrev pub ListsCode : List ℕ → ℕ → PrinterState → PrinterState → Type 0
ListsCode bytes imported old new = EndsList (HasCodeFaults bytes) old new
    ⊎ ((found : CodeFaults) × HasCodeFaults bytes found
    × IsPrinted old new (flat_map (code_line bytes imported) found.faults ++ list_end found.end))

-- the types of a module's functions, or that it has none that can be read
abbrev pub KnowsTypes : List ℕ → Option (List FunctionType) → Type 0
KnowsTypes bytes (Some types) = HasTypes bytes types
KnowsTypes bytes None = (types : List FunctionType) → HasTypes bytes types → ⊥

-- the lines of imports, and then those of functions
pub record ListsParts (bytes : List ℕ) (old new : PrinterState) : Type 0 where
  pub types : Option (List FunctionType)
  pub known : KnowsTypes bytes types
  pub imports : List Import
  pub imported : HasImports bytes imports
  pub between : PrinterState
  pub first : TellsImports types imports old between
  pub then : ListsCode bytes (count_by is_function imports) between new

-- all lines
abbrev pub ListsAll : List ℕ → PrinterState → PrinterState → Type 0
ListsAll bytes old new = ListsParts bytes old new ⊎ EndsList (HasImports bytes) old new

-- ---- the first fault

-- That is told where the byte at an offset lies in no function. In a function, nothing is told.
abbrev pub TellsOutside : List ℕ → ℕ → Type 0 → PrinterState → PrinterState → Type 0
TellsOutside bytes at Told old new = (place : Option ModulePlace) × LiesAt bytes at place
    × MatchOption (function_of place) Told (λ number. new ≡ old)

-- What is told of the first fault beside its code, where no line of the list is of it: one that is
-- neither of an import nor in a function.
abbrev pub TellsUnlisted : List ℕ → ModuleFault → PrinterState → PrinterState → Type 0
TellsUnlisted bytes (Link link.TooManyPages) old new =
    TellsMore bytes (Link link.TooManyPages) old new
TellsUnlisted bytes (Link _) old new = new ≡ old
TellsUnlisted bytes (Valid fault) old new = new ≡ old
TellsUnlisted bytes (Decode (decode.Float at)) old new =
    TellsOutside bytes at (TellsOfFloat bytes at old new) old new
TellsUnlisted bytes (Decode (decode.Limit passed)) old new =
    TellsOutside bytes passed.at (IsPrinted old new (passed_text passed None)) old new
TellsUnlisted bytes (Decode _) old new = new ≡ old

-- That is told last, and then all lines.
abbrev pub EndsWithList : List ℕ → ModuleFault → PrinterState → Type 0
EndsWithList bytes why new = (first : PrinterState) × (second : PrinterState)
    × TellsUnlisted bytes why first second × ListsAll bytes second new
