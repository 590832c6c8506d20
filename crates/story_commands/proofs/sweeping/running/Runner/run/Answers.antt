use Rattle.std.proofs.Common.{refl, sym}
use Rattle.story_commands.proofs.SweepLemmas.Starts.{told_so}
use Rattle.story_commands.proofs.sweeping.running.Runner.run.Goals as goal

pub returns-clause-run : goal.returns-clause-run
returns-clause-run c = (
  refl,
  record {
    tells =
        told_so c.args.wasm.now c.args.config.now c.as_slice.result.now c.args.lives
        c.in_ok-report.report.lives c.in_ok-reports.reports c.as_slice.ensures
        (sym c.in_ok-reports.ensures.told) c.in_ok-report.ensures;
    fed = c.in_ok-reports.ensures.fed;
  },
)
