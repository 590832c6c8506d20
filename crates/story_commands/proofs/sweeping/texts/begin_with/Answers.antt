use Rattle.std.proofs.Common.{◌≡◌, ℕ, arith, ap, sym, ◌∙◌, length, take}
use Rattle.std.proofs.lemmas.List.{take_all}
use Rattle.story_commands.proofs.SweepLemmas.Texts.{begun_with}
use Rattle.story_commands.proofs.sweeping.texts.begin_with.Goals as goal

pub returns : goal.returns
returns c =
    let texts = c.args.texts.now in
    let front = c.args.front.now in
    let all : c.loop-at.at ≡ length front =
    omega (arith, c.loop-at.invariant.0, c.loop-at-test.false) in
    λ _. begun_with texts front
    (ap (λ (n : ℕ). take n texts) (sym all) ∙ c.loop-at.invariant.1
    ∙ take_all c.loop-at.at front (omega (arith, all)))
