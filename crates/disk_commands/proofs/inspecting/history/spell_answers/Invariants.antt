use Rattle.std.proofs.Common.{take}
use Rattle.std.specs.List.{flat_map}
use Rattle.std.specs.Io.KnownBytes.{Appends}
use Rattle.disk_commands.specs.rules.Histories.{given_line}
use Rattle.disk_commands.proofs.inspecting.history.spell_answers.Given as goal

-- the first answers are spelled
abbrev pub invariant-loop-entry : goal.invariant-loop-entry
invariant-loop-entry g l = Appends (g.W.Write.contents l.fn.out) (g.W.Write.contents l.out)
    (flat_map given_line (take l.entry-index l.records))
