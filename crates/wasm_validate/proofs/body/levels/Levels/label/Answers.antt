use Rattle.std.proofs.Common.{refl, sym, ap, ◌∙◌}
use Rattle.std.specs.Prelude.{slice_get}
use Rattle.std.specs.Option.{option_map}
use Rattle.wasm_validate.specs.laws.Checking.{labels_of}
use Rattle.wasm_validate.proofs.BodyLemmas.LevelViews.{label_at, label_of_control}
use Rattle.wasm_validate.proofs.body.levels.Levels.label.Goals as goal

pub returns-in-Some : goal.returns-in-Some
returns-in-Some c =
    ap (λ z. slice_get (labels_of z) c.args.number) (sym c.self.view_is)
    ∙ label_at c.self.inside.controls c.self.inside.operands c.args.number
    ∙ ap (λ z. option_map label_of_control z) (sym c.get.ensures ∙ c.in-Some.is)

pub returns-in-None : goal.returns-in-None
returns-in-None c = (
  refl,
  ap (λ z. slice_get (labels_of z) c.args.number) (sym c.self.view_is)
      ∙ label_at c.self.inside.controls c.self.inside.operands c.args.number
      ∙ ap (λ z. option_map label_of_control z) (sym c.get.ensures ∙ c.in-None.is),
)
