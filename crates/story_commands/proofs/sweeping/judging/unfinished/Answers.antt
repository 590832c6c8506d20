use Rattle.std.proofs.Common.{ℕ, ◌+◌, ap}
use Rattle.story_commands.specs.rules.Sweeps.{HasDoneAll}
use Rattle.story_commands.proofs.SweepLemmas.Lists.{all_more}
use Rattle.story_commands.proofs.sweeping.judging.unfinished.Goals as goal

pub loop-report-preserved : goal.loop-report-preserved
loop-report-preserved c = (
  all_more HasDoneAll c.args.reports.now c.loop-report.report-index c.report-item.result
      c.loop-report-test.true c.report-item.is c.loop-report.invariant.0
      (c.has_finished.ensures c.if-not-has_finished.false),
  ap (λ (n : ℕ). n + 1) c.loop-report.invariant.1,
)
