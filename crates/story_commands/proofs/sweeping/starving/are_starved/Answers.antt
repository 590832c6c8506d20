use Rattle.std.proofs.Common.{subst, sym, ◌∙◌}
use Rattle.std.specs.List.{All}
use Rattle.std.proofs.lemmas.List.{take_all}
use Rattle.story_commands.specs.rules.Sweeps.{HadMemory}
use Rattle.story_commands.proofs.SweepLemmas.Lists.{all_more}
use Rattle.story_commands.proofs.sweeping.starving.are_starved.Goals as goal

pub loop-report-preserved : goal.loop-report-preserved
loop-report-preserved c =
    all_more HadMemory c.args.reports.now c.loop-report.report-index c.report-item.result
    c.loop-report-test.true c.report-item.is c.loop-report.invariant
    (sym c.is_starved.ensures ∙ c.if-is_starved.false)

pub returns : goal.returns
returns c =
    λ _. subst (All HadMemory)
    (take_all c.loop-report.report-index c.args.reports.now c.loop-report-test.false)
    c.loop-report.invariant
