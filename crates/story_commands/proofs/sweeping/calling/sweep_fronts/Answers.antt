use Rattle.std.proofs.Common.{◌≡◌, ℕ, ◌+◌, List, arith, ap, length, map, refl, subst, ◌∙◌}
use Rattle.std.specs.List.{All}
use Rattle.std.proofs.lemmas.List.{take_all}
use Rattle.story_commands.specs.rules.Sweeps.{SomeCut, cut_point}
use Rattle.story_commands.specs.laws.CutRuns.{IsSweptAt}
use Rattle.story_commands.proofs.SweepLemmas.CutLists.{one_cut_more}
use Rattle.story_commands.proofs.sweeping.calling.sweep_fronts.Goals as goal

pub loop-front-preserved : goal.loop-front-preserved
loop-front-preserved c = (
  one_cut_more (SomeCut (IsSweptAt c.args.sweep.now)) c.args.call c.args.fronts.now
      c.loop-front.front-index _ c.loop-front-test.true refl c.loop-front.invariant.0
      (_, c.in_ok-now.ensures.agrees.0),
  omega (arith, c.in_ok-now.ensures.agrees.1, c.loop-front.invariant.1),
)

pub returns-clause-agree : goal.returns-clause-agree
returns-clause-agree c =
    let fronts = c.args.fronts.now in
    let all : c.loop-front.front-index ≡ length fronts =
    omega (arith, c.loop-front-test.false, c.loop-front.auto.front-index-end) in (
      subst (λ (fs : List ℕ). All (SomeCut (IsSweptAt c.args.sweep.now))
          (map (cut_point c.args.call) fs))
          (take_all c.loop-front.front-index fronts c.loop-front-test.false)
          c.loop-front.invariant.0,
      c.loop-front.invariant.1 ∙ ap (λ (n : ℕ). c.args.so_far.cuts + n) all,
    )
