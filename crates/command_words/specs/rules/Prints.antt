-- What a printer does with a line.
use Rattle.std.specs.Prelude.{ℕ, List, Result, Ok, Err}
use Rattle.wasi_calls_rules.specs.WasiStates.{Line}
use Rattle.record_replay.specs.rules.Calls.{Taking}
use Rattle.command_words.specs.rules.Printers.{PrinterState, IsPrinted, StopsPrinting}
use Rattle.command_words.specs.rules.Texts.{printed}

-- The text is printed. Or there is an error, and only since a write has failed.
abbrev pub PrintsText : {E : Type 0} → PrinterState → List ℕ → Result (Unit {0}) E → PrinterState
    → Type 0
PrintsText old text (Ok done) new = IsPrinted old new text
PrintsText old text (Err e) new = StopsPrinting old new text

-- so it is with a line, as it is printed
abbrev pub PrintsOneLine : {E : Type 0} → PrinterState → ℕ → Line → Result (Unit {0}) E
    → PrinterState → Type 0
PrintsOneLine old number line said new = PrintsText old (printed number line) said new

-- what an outlet takes that prints
abbrev pub printing : Taking PrinterState
printing old number line said new = PrintsOneLine old number line said new
