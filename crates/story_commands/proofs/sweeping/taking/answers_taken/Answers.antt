use Rattle.std.proofs.Common.{rules}
use Rattle.story_commands.proofs.SweepLemmas.Taken.{taken_so}
use Rattle.story_commands.proofs.sweeping.taking.answers_taken.Goals as goal

pub returns-clause-taken : goal.returns-clause-taken
returns-clause-taken c =
    taken_so c.args.wasm.now c.args.config.now c.args.earlier.now c.in_ok-lives.lives
    c.args.life.now c.in_ok-run.run' c.as_slice-reports.result.now _ c.in_ok-lives.ensures
    c.in_ok-run.ensures.run.0 c.in_ok-run.ensures.run.1 c.as_slice-reports.ensures (search rules)
