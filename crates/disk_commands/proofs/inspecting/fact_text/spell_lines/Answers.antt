use Rattle.disk_commands.specs.FactViews.{fact_value_of}
use Rattle.disk_commands.specs.rules.Facts.{fact_line}
use Rattle.disk_commands.proofs.FactLemmas.{one_more_spelled}
use Rattle.disk_commands.proofs.inspecting.fact_text.spell_lines.Goals as goal

pub loop-value-preserved : goal.loop-value-preserved
loop-value-preserved g c =
    one_more_spelled fact_value_of c.args.values.now c.loop-value.value-index c.value-item.result
    (fact_line c.args.name.now) (g.W.Write.contents c.args.out.now)
    (g.W.Write.contents c.loop-value.out) (g.W.Write.contents c.spell_line.new.out)
    c.loop-value-test.true c.value-item.is c.loop-value.invariant c.in_ok-spell_line.ensures
