-- What a printer has printed of a life, and what a failed write of it comes to.
use Rattle.std.specs.Prelude.{◌≡◌, ℕ, true, false, List, [], ◌∷◌, ◌++◌}
use Rattle.record_replay.specs.rules.Calls.{Exchange, Releases, releases_of}
use Rattle.worker.specs.laws.OneLife.{released_in, taken_in}
use Rattle.worker.specs.laws.Uncut.{AreTrue}
use Rattle.worker.specs.rules.LifeWords.{Release}
use Rattle.command_words.specs.rules.Printers.{PrinterState, IsPrinted, HasOneFailed, printers}
use Rattle.command_words.specs.rules.Prints.{printing}
use Rattle.command_words.specs.rules.Texts.{printed}
use Rattle.command_words.specs.declared.status.Status.{Status}
use Rattle.command_words.specs.declared.status.Status.TheVariants as exit
use Rattle.disk_commands.specs.rules.Refusals.{HeedsRefusal}

-- the lines that were released in it, as they are printed
abbrev pub released_lines : List Release → List ℕ
released_lines [] = []
released_lines (r ∷ others) = printed r.number r.line ++ released_lines others

-- Where each line that was released was taken, just these were printed, in order.
abbrev pub ReleasedLinesArePrinted : Type 0
ReleasedLinesArePrinted = (exchanges : List Exchange) (old new : PrinterState)
    → Releases printing old (releases_of exchanges) new → AreTrue (taken_in exchanges)
    → IsPrinted old new (released_lines (released_in exchanges))

-- ---- a write that fails

-- No write of the output had failed when a run began that prints its lines there. Then its status
-- is `Unwritten` where one has failed, and only where one of the output or of the error output has.
abbrev pub UnwrittenIsAFailedWrite : Type 0
UnwrittenIsAFailedWrite = (out out' err' : PrinterState) (status : Status) → out.failed ≡ false
    → HeedsRefusal printing out out' err' status
    → (out'.failed ≡ true → status ≡ exit.Unwritten)
    × (status ≡ exit.Unwritten → HasOneFailed (printers out' err'))
