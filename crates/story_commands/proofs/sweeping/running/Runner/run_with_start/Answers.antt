use Rattle.std.proofs.Common.{List, ◌≤◌, length, refl, subst, sym}
use Rattle.worker.specs.declared.story.life.PlannedLife.{PlannedLife}
use Rattle.story_commands.proofs.SweepLemmas.Starts.{started_so, told_so}
use Rattle.story_commands.proofs.sweeping.running.Runner.run_with_start.Goals as goal

pub story_with_start-requires : goal.story_with_start-requires
story_with_start-requires c =
    subst (λ (lives : List PlannedLife). c.args.place ≤ length lives) (sym c.as_slice.ensures)
    c.requires

pub returns-clause-run : goal.returns-clause-run
returns-clause-run c = (
  refl,
  record {
    tells =
        told_so c.args.wasm.now c.args.config.now c.as_slice.result.now c.args.lives
        c.in_ok-report.field-0.report.lives c.in_ok-reports.reports c.as_slice.ensures
        (sym c.in_ok-reports.ensures.told) c.in_ok-report.ensures.told;
    fed = c.in_ok-reports.ensures.fed;
  },
)

pub returns-clause-start : goal.returns-clause-start
returns-clause-start c =
    started_so c.args.wasm.now c.args.config.now c.args.place c.as_slice.result.now c.args.lives
    c.in_ok-report.field-0.report.lives c.in_ok-reports.reports c.in_ok-report.field-0.start
    c.as_slice.ensures (sym c.in_ok-reports.ensures.told) c.in_ok-report.ensures.start
