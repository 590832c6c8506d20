use Rattle.std.proofs.Common.{List, ◌++◌, take}
use Rattle.std.specs.List.{flat_map}
use Rattle.record_replay.specs.declared.line_list.NumberedLine.{NumberedLine}
use Rattle.story_commands.specs.rules.Sweeps.{AreTextsOf, lines_told}
use Rattle.story_commands.proofs.sweeping.texts.put_told.Given as goal

-- the lines of the first lives fit
abbrev pub invariant-loop-report : goal.invariant-loop-report
invariant-loop-report l = (lines : List NumberedLine) → AreTextsOf l.fn.texts lines
    → AreTextsOf l.texts (lines ++ flat_map lines_told (take l.report-index l.reports))
