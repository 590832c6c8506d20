use Rattle.std.proofs.Common.{take}
use Rattle.std.specs.Io.KnownBytes.{Appends}
use Rattle.disk_commands.specs.FactViews.{facts_of}
use Rattle.disk_commands.specs.rules.Facts.{facts_text}
use Rattle.disk_commands.proofs.inspecting.fact_text.spell_facts.Given as goal

-- the first facts are spelled
abbrev pub invariant-loop-fact : goal.invariant-loop-fact
invariant-loop-fact g l = Appends (g.W.Write.contents l.fn.out) (g.W.Write.contents l.out)
    (facts_text (facts_of (take l.fact-index l.facts)))
