-- The last words of a run: how its worker has ended, or that it waits (this project's own).
use Rattle.std.specs.Prelude.{◌≡◌, ◌⊎◌, ℕ, ◌+◌, Bool, true, false, List, [], ◌++◌, Option, Some}
use Rattle.std.specs.Prelude.{None, codes}
use Rattle.std.specs.Fmt.{decimal}
use Rattle.process_rules.specs.Processes.{Ending, Exited, Trapped}
use Rattle.process.specs.rules.Values.{ending_of}
use Rattle.record_replay.specs.declared.slices.now.Now.{Now}
use Rattle.record_replay.specs.declared.slices.now.Now.TheVariants as now
use Rattle.command_words.specs.rules.Printers.{PrinterState, IsPrinted}
use Rattle.command_words.specs.rules.Texts.{named_number, trap_text}
use Rattle.command_words.specs.declared.status.Status.{Status}
use Rattle.command_words.specs.declared.status.Status.TheVariants as exit
use Rattle.disk_commands.specs.rules.TrapFrames.{TellsFrames}

-- how a worker that is over has ended, if it has
abbrev pub ended_by : Now → Option Ending
ended_by now.Spent = None
ended_by now.Waiting = None
ended_by (now.Ended how) = Some (ending_of how)

-- the last words of a worker that is over
abbrev pub last_words : Option Ending → List ℕ
last_words (Some (Exited code)) = codes "exited " ++ decimal code ++ codes "\n"
last_words (Some (Trapped why)) = codes "trapped " ++ trap_text why ++ codes "\n"
last_words None = codes "parked\n"

-- which request a worker that waits takes next
abbrev pub request_words : ℕ → List ℕ
request_words number = named_number (codes "parked, next request ") number ++ codes "\n"

-- Where a person reads along, the number of the next request of a worker that waits, after so many.
abbrev pub next_line : Bool → Option Ending → ℕ → List ℕ
next_line true None taken = request_words (taken + 1)
next_line true (Some how) taken = []
next_line false how taken = []

-- the last words, the lines of frames, and that line
abbrev pub over_words : Bool → Option Ending → List ℕ → ℕ → List ℕ
over_words heard how frames taken = last_words how ++ frames ++ next_line heard how taken

-- These are printed, with names of this module, if one is known.
abbrev pub PrintsOver : Option (List ℕ) → Bool → Option Ending → ℕ → PrinterState → PrinterState
    → Type 0
PrintsOver bytes heard how taken old new = (frames : List ℕ) × TellsFrames bytes how frames
    × IsPrinted old new (over_words heard how frames taken)

-- The status is `Done`, and they are printed; or it is `Unwritten`, and a write has failed.
abbrev pub SaysOver : Option (List ℕ) → Bool → Option Ending → ℕ → PrinterState → Status
    → PrinterState → Type 0
SaysOver bytes heard how taken old status new =
    ((status ≡ exit.Done) × PrintsOver bytes heard how taken old new)
    ⊎ ((status ≡ exit.Unwritten) × (new.failed ≡ true))
