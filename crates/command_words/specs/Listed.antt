-- Lines of a list, one by one.
use Rattle.std.specs.Prelude.{◌≡◌, ◌⊎◌, List, Option}
use Rattle.wasm_syntax.specs.declared.types.FunctionType.{FunctionType}
use Rattle.wasm_syntax.specs.declared.module.Import.{Import}
use Rattle.command_words.specs.rules.Listings.{IsAllowed, import_line}
use Rattle.command_words.specs.rules.Printers.{PrinterState, IsPrinted}

-- An import that is in the way is printed, and of another one nothing is.
abbrev pub TellsImport : Option (List FunctionType) → Import → PrinterState → PrinterState
    → Type 0
TellsImport types i old new =
    (IsAllowed types i × (new ≡ old))
    ⊎ ((IsAllowed types i → ⊥) × IsPrinted old new (import_line i))
