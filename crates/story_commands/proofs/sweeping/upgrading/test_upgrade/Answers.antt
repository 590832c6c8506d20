use Rattle.story_commands.proofs.SweepLemmas.Runs.{upgraded_again}
use Rattle.story_commands.proofs.sweeping.upgrading.test_upgrade.Goals as goal

pub returns : goal.returns
returns c =
    upgraded_again c.args.sweep.now c.in_ok-lives.lives c.in_ok-run.run' c.in_ok-run.ensures.run.0
    c.in_ok-lives.ensures c.in_ok-run.ensures.run.1
