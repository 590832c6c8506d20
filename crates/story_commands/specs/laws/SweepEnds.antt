-- What is said of how a sweep has ended.
use Rattle.std.specs.Prelude.{◌≡◌, Option, Some, None, Result, Ok, Err}
use Rattle.command_words.specs.declared.telling.Obstacle.TheVariants as obstacle
use Rattle.command_words.specs.rules.Printers.{Printers, SaysText}
use Rattle.command_words.specs.rules.Reports.{SaysLine, obstacle_words}
use Rattle.command_words.specs.declared.status.Status.{Status}
use Rattle.command_words.specs.declared.status.Status.TheVariants as exit
use Rattle.story_commands.specs.declared.sweeping.fault.SweepFault.{SweepFault}
use Rattle.story_commands.specs.declared.sweeping.fault.SweepFault.TheVariants as fault
use Rattle.story_commands.specs.declared.sweeping.whole_sweep.Swept.{Swept}
use Rattle.story_commands.specs.Said.{SaysDifference, SaysPlan, SaysSwept}
use Rattle.story_commands.specs.rules.SweepTexts.{answers_left_line, no_upgrade_line}

-- What is printed on the two outputs, and the exit status. Where a person couldn't be shown how far
-- it has come, nothing more is printed.
abbrev pub SaysEnd : Result (Option Swept) SweepFault → Printers → Printers → Status → Type 0
SaysEnd (Ok (Some swept)) before after status =
    SaysSwept swept.cuts swept.lines before after status
SaysEnd (Ok None) before after status =
    (status ≡ exit.Unwritten) × (after.out ≡ before.out) × (after.err ≡ before.err)
SaysEnd (Err fault.Memory) before after status =
    SaysLine (obstacle_words obstacle.Memory) exit.OutOfMemory before.err status after.err
    × (after.out ≡ before.out)
SaysEnd (Err (fault.Plan number why)) before after status =
    SaysPlan number why before.err after.err status × (after.out ≡ before.out)
SaysEnd (Err (fault.AnswersLeft number taken all)) before after status =
    SaysText (answers_left_line number taken all) exit.Usage before.err status after.err
    × (after.out ≡ before.out)
SaysEnd (Err (fault.Upgrade run)) before after status =
    SaysText no_upgrade_line exit.Usage before.err status after.err × (after.out ≡ before.out)
SaysEnd (Err (fault.Differs run)) before after status =
    SaysDifference before after status
