use Rattle.std.proofs.Common.{ap, subst, sym, ◌∙◌}
use Rattle.story_commands.specs.laws.CutRuns.{AgreesBehind}
use Rattle.story_commands.specs.rules.Sweeps.{front_left}
use Rattle.story_commands.proofs.SweepLemmas.Starts.{cut_agrees}
use Rattle.story_commands.proofs.sweeping.cutting.judge.Goals as goal

pub returns-in-Some-clause-agrees : goal.returns-in-Some-clause-agrees
returns-in-Some-clause-agrees c =
    cut_agrees c.args.sweep.now c.args.point c.args.given c.in-Some.in_write c.args.reports
    c.requires.started c.requires.run
    (ap (front_left 0) (sym c.as_slice.ensures) ∙ sym c.front_left-front.ensures ∙ c.in-Some.is)
    (subst (AgreesBehind c.args.sweep.now c.args.given) c.as_slice-2.ensures
    (c.in_ok-is_same.ensures.same c.if-is_same.true))
