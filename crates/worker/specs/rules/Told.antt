-- What a report tells of a life.
use Rattle.std.specs.Prelude.{◌≡◌, ◌≤◌, ℕ, ◌+◌, ◌*◌, List, [], ◌∷◌, length, map, Option, Some, None}
use Rattle.state_image.specs.rules.ProcessImage.{Saved, process_image}
use Rattle.record_replay.specs.declared.line_list.NumberedLine.{NumberedLine}
use Rattle.record_replay.specs.rules.Lists.{numbered}
use Rattle.worker_store.specs.restart_theorem.Lives.{Release, told_in}
use Rattle.worker_store.specs.restart_theorem.Lives.{Beginning, Recovers, Creates, End, Life}
use Rattle.worker_store.specs.restart_theorem.Lives.End.{Finished as finished, Stopped as stopped}
use Rattle.worker_store.specs.restart_theorem.Lives.End.{Failed as failed}
use Rattle.worker.specs.rules.OneLife.{opened_in, IsCauseOf}
use Rattle.worker.specs.declared.story.report.Opening.{Opening}
use Rattle.worker.specs.declared.story.report.Opening.TheVariants.{Created, Recovered, Unopened}
use Rattle.worker.specs.declared.story.report.LifeEnd.{LifeEnd}
use Rattle.worker.specs.declared.story.report.LifeEnd.TheVariants as told
use Rattle.worker.specs.declared.story.report.LifeReport.{LifeReport}
use Rattle.worker.specs.rules.CallCounts.{most_calls}

-- A life that was created, or recovered, tells the image of the process with which it opened, and a
-- recovered one its numbers too. Of one that wasn't opened nothing is told.
abbrev pub TellsOpening : Beginning → Option Saved → Opening → Type 0
TellsOpening begins (Some shown) (Created bytes) = (begins ≡ Creates)
    × (bytes ≡ process_image shown)
TellsOpening begins (Some shown) (Recovered generation steps answers lines bytes) =
    (begins ≡ Recovers) × (steps ≡ shown.steps) × (answers ≡ shown.answers)
    × (lines ≡ shown.lines) × (bytes ≡ process_image shown)
TellsOpening begins None Unopened = Unit {0}
TellsOpening begins _ _ = ⊥

-- a line that was told, as the report has it
abbrev pub told_line : Release → NumberedLine
told_line release = numbered release.number release.line

-- how a life ended, and by which error
abbrev pub TellsLifeEnd : End → LifeEnd → Type 0
TellsLifeEnd finished told.Finished = Unit {0}
TellsLifeEnd stopped told.Stopped = Unit {0}
TellsLifeEnd (failed cause) (told.Failed why) = IsCauseOf why cause
TellsLifeEnd _ _ = ⊥

-- how a life was opened, all lines that it told, in order, how it ended, and with how many calls of
-- the disk
pub record TellsLife (life : Life) (report : LifeReport) : Type 0 where
  pub opened : TellsOpening life.begins (opened_in life.events) report.opened
  pub releases : report.releases ≡ map told_line (told_in life.events)
  pub ended : TellsLifeEnd life.ends report.ended
  pub calls : report.calls ≡ life.calls

-- each of these lives, in order
abbrev pub TellsEach : List Life → List LifeReport → Type 0
TellsEach [] [] = Unit {0}
TellsEach (life ∷ lives) (report ∷ reports) = TellsLife life report × TellsEach lives reports
TellsEach _ _ = ⊥

-- on a disk of so many sectors few calls were begun before each event of these lives, and after the
-- last one
abbrev pub BeginFewCalls : ℕ → List Life → Type 0
BeginFewCalls sectors [] = Unit {0}
BeginFewCalls sectors (life ∷ lives) =
    (life.calls ≤ (length life.events + 1) * most_calls sectors) × BeginFewCalls sectors lives
