-- What is told of a limit that the bytes of a module pass (this project's own).
use Rattle.std.specs.Prelude.{◌≡◌, ◌⊎◌, true, ℕ, List, [], ◌++◌, codes, Option, Some, None}
use Rattle.std.specs.Fmt.{decimal}
use Rattle.wasm_syntax.specs.declared.limits.TheConstants.{MODULE_BYTES, FUNCTIONS, INSTRUCTIONS}
use Rattle.wasm_syntax.specs.declared.limits.TheConstants.{PARAMETERS, LOCALS, TABLE_ENTRIES}
use Rattle.wasm_syntax.specs.declared.limits.TheConstants.{GLOBALS}
use Rattle.wasm_decode.specs.declared.items.limit.ModuleLimit.{ModuleLimit}
use Rattle.wasm_decode.specs.declared.items.limit.ModuleLimit.TheVariants as limit
use Rattle.wasm_decode.specs.declared.items.limit.PassedLimit.{PassedLimit}
use Rattle.wasm_places.specs.declared.place.ModulePlace.{ModulePlace}
use Rattle.wasm_places.specs.declared.place.ModulePlace.TheVariants as place
use Rattle.wasm_places.specs.rules.Places.{LiesAt}
use Rattle.command_words.specs.rules.Printers.{PrinterState, IsPrinted}
use Rattle.command_words.specs.declared.status.Status.{Status}
use Rattle.command_words.specs.declared.status.Status.TheVariants as exit

-- how many it allows
abbrev pub most_of : ModuleLimit → ℕ
most_of limit.Bytes = MODULE_BYTES
most_of limit.Functions = FUNCTIONS
most_of limit.Instructions = INSTRUCTIONS
most_of limit.Parameters = PARAMETERS
most_of limit.Locals = LOCALS
most_of limit.TableEntries = TABLE_ENTRIES
most_of limit.Globals = GLOBALS

-- what it allows that many of
abbrev pub limit_words : ModuleLimit → List ℕ
limit_words limit.Bytes = codes "bytes in the module"
limit_words limit.Functions = codes "functions"
limit_words limit.Instructions = codes "instructions in one expression"
limit_words limit.Parameters = codes "parameters in one type"
limit_words limit.Locals = codes "locals in one function"
limit_words limit.TableEntries = codes "entries in a new table"
limit_words limit.Globals = codes "globals"

-- the function in whose code a byte with this place lies, if it is in one
abbrev pub function_of : Option ModulePlace → Option ℕ
function_of (Some (place.Function number)) = Some number
function_of (Some (place.Type number)) = None
function_of (Some (place.Section id)) = None
function_of None = None

-- such a function
abbrev pub in_function : Option ℕ → List ℕ
in_function (Some number) = codes ", in function " ++ decimal number
in_function None = []

-- The limit and its place: `more than 4096 instructions in one expression, at byte 16400, in
-- function 12`.
abbrev pub passed_text : PassedLimit → Option ℕ → List ℕ
passed_text passed function =
    codes "more than " ++ decimal (most_of passed.limit) ++ codes " " ++ limit_words passed.limit
    ++ codes ", at byte " ++ decimal passed.at ++ in_function function ++ codes "\n"

-- The verdict, as `refused`, and on a line of its own the limit and its place.
abbrev pub limit_text : List ℕ → PassedLimit → Option ℕ → List ℕ
limit_text verdict passed function = verdict ++ codes " B3 Limit\n" ++ passed_text passed function

-- That is printed of a limit that these bytes pass.
abbrev pub TellsLimit : List ℕ → List ℕ → PassedLimit → PrinterState → PrinterState → Type 0
TellsLimit bytes verdict passed old new = (lies : Option ModulePlace) × LiesAt bytes passed.at lies
    × IsPrinted old new (limit_text verdict passed (function_of lies))

-- That is said, with this status. Or it is `Unwritten`, and a write has failed.
abbrev pub SaysLimit : List ℕ → List ℕ → PassedLimit → Status → PrinterState → Status → PrinterState
    → Type 0
SaysLimit bytes verdict passed status old answered new =
    ((answered ≡ status) × TellsLimit bytes verdict passed old new)
    ⊎ ((answered ≡ exit.Unwritten) × (new.failed ≡ true))
