-- Texts that a sweep and a story print, and the status that comes with them.
use Rattle.std.specs.Prelude.{◌≡◌, ◌⊎◌, ℕ, List, true}
use Rattle.worker.specs.declared.recover_fault.RecoverFault.{RecoverFault}
use Rattle.worker.specs.declared.story.report.LifeReport.{LifeReport}
use Rattle.command_words.specs.rules.Printers.{PrinterState, Printers, IsPrinted, HasOneFailed}
use Rattle.command_words.specs.declared.status.Status.{Status}
use Rattle.command_words.specs.declared.status.Status.TheVariants as exit
use Rattle.story_commands.specs.rules.Stories.{story_text}
use Rattle.story_commands.specs.rules.SweepTexts.{swept_line, plan_line}

-- the line is printed, or memory is wanted for it, or a write has failed
abbrev pub SaysSwept : ℕ → ℕ → Printers → Printers → Status → Type 0
SaysSwept cuts lines before after status =
    ((status ≡ exit.Done) × IsPrinted before.out after.out (swept_line cuts lines)
    × (after.err ≡ before.err))
    ⊎ ((status ≡ exit.OutOfMemory) × (after.out ≡ before.out)
    × (after.err.failed ≡ before.err.failed))
    ⊎ ((status ≡ exit.Unwritten) × HasOneFailed after)

-- lives that differ are told, or memory is wanted for that, or a write has failed
abbrev pub SaysDifference : Printers → Printers → Status → Type 0
SaysDifference before after status =
    ((status ≡ exit.Different) × (after.out.failed ≡ before.out.failed)
    × (after.err.failed ≡ before.err.failed))
    ⊎ ((status ≡ exit.OutOfMemory) × (after.out ≡ before.out)
    × (after.err.failed ≡ before.err.failed))
    ⊎ ((status ≡ exit.Unwritten) × HasOneFailed after)

-- The line of a plan that can't be run to its end is printed. Or memory is wanted for it, or a
-- write has failed.
abbrev pub SaysPlan : ℕ → RecoverFault → PrinterState → PrinterState → Status → Type 0
SaysPlan number why err err' status =
    ((status ≡ exit.Usage) × IsPrinted err err' (plan_line number why))
    ⊎ ((status ≡ exit.OutOfMemory) × (err'.failed ≡ err.failed))
    ⊎ ((status ≡ exit.Unwritten) × (err'.failed ≡ true))

-- the text of these lives is printed, or memory is wanted for it, or a write has failed
abbrev pub SaysLives : List LifeReport → Printers → Printers → Status → Type 0
SaysLives reports before after status =
    ((status ≡ exit.Done) × IsPrinted before.out after.out (story_text 1 reports)
    × (after.err ≡ before.err))
    ⊎ ((status ≡ exit.OutOfMemory) × (after.out ≡ before.out)
    × (after.err.failed ≡ before.err.failed))
    ⊎ ((status ≡ exit.Unwritten) × HasOneFailed after)
