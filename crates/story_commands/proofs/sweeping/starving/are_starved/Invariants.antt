use Rattle.std.proofs.Common.{take}
use Rattle.std.specs.List.{All}
use Rattle.story_commands.specs.rules.Sweeps.{HadMemory}
use Rattle.story_commands.proofs.sweeping.starving.are_starved.Given as goal

-- the first lives had memory
abbrev pub invariant-loop-report : goal.invariant-loop-report
invariant-loop-report l = All HadMemory (take l.report-index l.reports)
