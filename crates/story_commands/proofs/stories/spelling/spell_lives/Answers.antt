use Rattle.std.proofs.Common.{ap, ◌+◌}
use Rattle.story_commands.proofs.StoryLemmas.{next_life}
use Rattle.story_commands.proofs.stories.spelling.spell_lives.Goals as goal

pub loop-report-preserved : goal.loop-report-preserved
loop-report-preserved g c =
    let numbered = ap (λ n. n + 1) c.loop-report.invariant.0 in (
      numbered,
      next_life c.args.reports.now c.loop-report.report-index c.report-item.result
          (c.loop-report.number + 1) (g.W.Write.contents c.args.out.now)
          (g.W.Write.contents c.loop-report.out) (g.W.Write.contents c.spell_life.new.out)
          c.loop-report-test.true c.report-item.is numbered c.loop-report.invariant.1
          c.in_ok-spell_life.ensures,
    )
