use Rattle.std.proofs.Common.{arith, refl, ◌∙◌}
use Rattle.story_commands.specs.laws.CutRuns.{IsSweptAt}
use Rattle.story_commands.proofs.SweepLemmas.CutLists.{at_ok, none_made, one_call_more}
use Rattle.story_commands.proofs.sweeping.calling.sweep_calls.Goals as goal

pub loop-call-init : goal.loop-call-init
loop-call-init g c =
    (none_made (IsSweptAt c.args.sweep.now) c.args.fronts.now, omega arith, refl)

pub loop-call-preserved : goal.loop-call-preserved
loop-call-preserved g c = (
  one_call_more c.args.sweep.now c.loop-call.call c.args.fronts.now c.loop-call.now.cuts
      c.in_ok-now.now.cuts c.loop-call.invariant.0 c.in_ok-now.ensures.agree,
  omega (arith, c.loop-call-test.true),
  at_ok c.show_progress.result c.is_err.result c.is_err.ensures.value c.if-is_err.false
      c.show_progress.ensures.steady ∙ c.loop-call.invariant.2,
)
