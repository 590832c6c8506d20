use Rattle.disk_commands.specs.FactViews.{fact_of}
use Rattle.disk_commands.specs.rules.Facts.{fact_member}
use Rattle.disk_commands.proofs.FactLemmas.{one_more_put}
use Rattle.disk_commands.proofs.inspecting.fact_json.put_facts.Goals as goal

pub loop-fact-preserved : goal.loop-fact-preserved
loop-fact-preserved c =
    one_more_put fact_of c.args.facts.now c.loop-fact.fact-index c.fact-item.result fact_member
    c.args.members.now.entries c.loop-fact.members.entries c.put_fact.new.members.entries
    c.loop-fact-test.true c.fact-item.is c.loop-fact.invariant c.in_ok-put_fact.ensures
