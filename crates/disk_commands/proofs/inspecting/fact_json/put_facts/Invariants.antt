use Rattle.std.proofs.Common.{map, take}
use Rattle.disk_commands.specs.FactViews.{facts_of}
use Rattle.disk_commands.specs.Members.{Puts}
use Rattle.disk_commands.specs.rules.Facts.{fact_member}
use Rattle.disk_commands.proofs.inspecting.fact_json.put_facts.Given as goal

-- the first facts are put in
abbrev pub invariant-loop-fact : goal.invariant-loop-fact
invariant-loop-fact l = Puts l.fn.members.entries l.members.entries
    (map fact_member (facts_of (take l.fact-index l.facts)))
