use Rattle.std.proofs.Common.{take}
use Rattle.std.specs.List.{flat_map}
use Rattle.std.specs.Io.KnownBytes.{Appends}
use Rattle.disk_commands.specs.FactViews.{values_of}
use Rattle.disk_commands.specs.rules.Facts.{fact_line}
use Rattle.disk_commands.proofs.inspecting.fact_text.spell_lines.Given as goal

-- the first values are spelled
abbrev pub invariant-loop-value : goal.invariant-loop-value
invariant-loop-value g l = Appends (g.W.Write.contents l.fn.out) (g.W.Write.contents l.out)
    (flat_map (fact_line l.name) (values_of (take l.value-index l.values)))
