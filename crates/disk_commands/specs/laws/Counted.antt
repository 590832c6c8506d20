-- What an outlet comes to that prints, and counts the lines that it took.
use Rattle.std.specs.Prelude.{◌≡◌, ℕ, ◌+◌, ◌^◌, ◌<◌, List, [], ◌∷◌, Result, Ok, Err}
use Rattle.record_replay.specs.rules.Calls.{Begun, Releases}
use Rattle.command_words.specs.rules.Printers.{PrinterState}
use Rattle.command_words.specs.rules.Prints.{printing}
use Rattle.command_words.specs.declared.status.Status.{Status}
use Rattle.disk_commands.specs.rules.Refusals.{HeedsRefusal}
use Rattle.disk_commands.specs.rules.ToldLines.{CountedPrinter, counting}

-- one for a line that was taken
abbrev pub one_taken : {E : Type 0} → Result (Unit {0}) E → ℕ
one_taken (Ok done) = 1
one_taken (Err why) = 0

-- how many of these lines were taken
abbrev pub taken_among : List Begun → ℕ
taken_among [] = 0
taken_among (begun ∷ others) = one_taken begun.said + taken_among others

-- It prints the lines that are released to it as a printer does. Its count grows by those that it
-- took, as long as the number has 64 bits.
abbrev pub CountsWhatItTakes : Type 0
CountsWhatItTakes = (releases : List Begun) (old new : CountedPrinter)
    → Releases counting old releases new
    → Releases printing old.printer releases new.printer
    × (old.told + taken_among releases < 2 ^ 64 → new.told ≡ old.told + taken_among releases)

-- So what a status says of it holds of its printer.
abbrev pub HeedsAsItPrints : Type 0
HeedsAsItPrints = (old new : CountedPrinter) (err : PrinterState) (status : Status)
    → HeedsRefusal counting old new err status
    → HeedsRefusal printing old.printer new.printer err status
