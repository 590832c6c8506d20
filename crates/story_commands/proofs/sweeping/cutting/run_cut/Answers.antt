use Rattle.std.proofs.Common.{◌∙◌}
use Rattle.story_commands.proofs.SweepLemmas.Runs.{cut_run}
use Rattle.story_commands.proofs.sweeping.cutting.run_cut.Goals as goal

pub returns-clause-run : goal.returns-clause-run
returns-clause-run c =
    cut_run c.args.sweep.now c.args.point c.args.given c.as_slice.result.now c.run_from.result
    c.requires (c.as_slice.ensures ∙ c.in_ok-lives.ensures) c.run_from.ensures.run
    c.run_from.ensures.fed
