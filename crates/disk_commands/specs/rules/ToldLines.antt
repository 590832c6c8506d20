-- The lines that an upgrade tells, counted_printer, and the word to keep them (this project's own).
use Rattle.std.specs.Prelude.{◌≡◌, ◌⊎◌, ℕ, ◌+◌, ◌-◌, ◌^◌, ◌<◌, ◌==◌, if◌then◌else◌, List, ◌++◌}
use Rattle.std.specs.Prelude.{Result, Ok, Err, codes}
use Rattle.record_replay.specs.rules.Calls.{Taking}
use Rattle.command_words.specs.rules.Printers.{PrinterState}
use Rattle.command_words.specs.rules.Prints.{printing}
use Rattle.command_words.specs.rules.Reports.{SaysLine}
use Rattle.command_words.specs.rules.Texts.{named_number}
use Rattle.command_words.specs.declared.status.Status.{Status}

-- a printer of lines, and how many it took
pub record CountedPrinter : Type 0 where
  pub printer : PrinterState
  pub told : ℕ

-- these two
abbrev pub counted_printer : PrinterState → ℕ → CountedPrinter
counted_printer printer told = record { printer = printer; told = told }

-- One more, as long as the number has 64 bits. No process has as many lines.
abbrev pub one_more : ℕ → ℕ
one_more told = if told == (2 ^ 64 - 1) then told else told + 1

-- one more where the line was taken
abbrev pub told_with : {E : Type 0} → Result (Unit {0}) E → ℕ → ℕ
told_with (Ok done) told = one_more told
told_with (Err why) told = told

-- what an outlet takes that prints, and counts the lines that it took
abbrev pub counting : Taking CountedPrinter
counting old number line said new =
    printing old.printer number line said new.printer × (new.told ≡ told_with said old.told)

-- that so many lines were told, which belong to those of the runs
abbrev pub told_words : ℕ → List ℕ
told_words told = if told == 1 then codes "told 1 line: keep it with the others"
    else named_number (codes "told ") told ++ codes " lines: keep them with the others"

-- That is said, where there are any.
abbrev pub SaysTold : ℕ → Status → PrinterState → Status → PrinterState → Type 0
SaysTold told status old answered new =
    ((told ≡ 0) × (answered ≡ status) × (new ≡ old))
    ⊎ ((0 < told) × SaysLine (told_words told) status old answered new)
