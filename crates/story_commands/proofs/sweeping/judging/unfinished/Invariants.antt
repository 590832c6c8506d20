use Rattle.std.proofs.Common.{◌≡◌, take}
use Rattle.std.specs.List.{All}
use Rattle.story_commands.specs.rules.Sweeps.{HasDoneAll}
use Rattle.story_commands.proofs.sweeping.judging.unfinished.Given as goal

-- the first lives have finished
abbrev pub invariant-loop-report : goal.invariant-loop-report
invariant-loop-report l =
    All HasDoneAll (take l.report-index l.reports) × (l.place ≡ l.report-index)
