use Rattle.std.proofs.Common.{◌∙◌}
use Rattle.std.proofs.lemmas.Result.{IfOk-weaker}
use Rattle.command_words.proofs.SeedLemmas.{fills_seeded}
use Rattle.command_words.proofs.seed.seeded.Goals as goal

pub returns : goal.returns
returns c = IfOk-weaker c.fill.result _ _ (λ bytes is. is
    ∙ fills_seeded c.args.seed c.args.stream c.args.place c.args.length
    c.ranges.place.fits c.ranges.length.fits) c.fill.ensures
