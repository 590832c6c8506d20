-- What a printer has printed of a list of lines.
use Rattle.std.specs.Prelude.{ℕ, ◌+◌, List, [], ◌∷◌, ◌++◌}
use Rattle.wasi_calls_rules.specs.WasiStates.{Line}
use Rattle.record_replay.specs.rules.Calls.{Releases, all_taken}
use Rattle.command_words.specs.rules.Printers.{PrinterState, IsPrinted}
use Rattle.command_words.specs.rules.Prints.{printing}
use Rattle.command_words.specs.rules.Texts.{printed}

-- lines as they are printed, with the numbers from `first` on
abbrev pub all_printed : ℕ → List Line → List ℕ
all_printed first [] = []
all_printed first (line ∷ lines) = printed first line ++ all_printed (first + 1) lines

-- Where all lines were taken, they are printed, each once and in order, after what was there.
abbrev pub TakenLinesArePrinted : Type 0
TakenLinesArePrinted = (first : ℕ) (lines : List Line) (old new : PrinterState)
    → Releases printing old (all_taken first lines) new
    → IsPrinted old new (all_printed first lines)
