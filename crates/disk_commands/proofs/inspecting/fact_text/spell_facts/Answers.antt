use Rattle.disk_commands.specs.FactViews.{fact_of}
use Rattle.disk_commands.specs.rules.Facts.{fact_text}
use Rattle.disk_commands.proofs.FactLemmas.{one_more_spelled}
use Rattle.disk_commands.proofs.inspecting.fact_text.spell_facts.Goals as goal

pub loop-fact-preserved : goal.loop-fact-preserved
loop-fact-preserved g c =
    one_more_spelled fact_of c.args.facts.now c.loop-fact.fact-index c.fact-item.result fact_text
    (g.W.Write.contents c.args.out.now) (g.W.Write.contents c.loop-fact.out)
    (g.W.Write.contents c.spell_fact.new.out) c.loop-fact-test.true c.fact-item.is
    c.loop-fact.invariant c.in_ok-spell_fact.ensures
