use Rattle.std.proofs.Common.{List, ◌++◌, take}
use Rattle.record_replay.specs.declared.line_list.NumberedLine.{NumberedLine}
use Rattle.story_commands.specs.rules.Sweeps.{AreTextsOf}
use Rattle.story_commands.proofs.sweeping.texts.put_lines.Given as goal

-- the first lines fit
abbrev pub invariant-loop-line : goal.invariant-loop-line
invariant-loop-line l = (lines : List NumberedLine) → AreTextsOf l.fn.texts lines
    → AreTextsOf l.texts (lines ++ take l.line-index l.more)
