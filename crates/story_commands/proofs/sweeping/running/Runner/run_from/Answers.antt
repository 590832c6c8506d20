use Rattle.story_commands.proofs.SweepLemmas.Starts.{told_behind}
use Rattle.story_commands.proofs.sweeping.running.Runner.run_from.Goals as goal

pub returns-clause-run : goal.returns-clause-run
returns-clause-run c =
    told_behind c.args.wasm.now c.args.config.now c.args.start.now c.args.lives.now
    c.in_ok-report.report.lives c.fed.result c.fed.ensures.told c.in_ok-report.ensures
