use Rattle.std.proofs.Common.{◌∷◌, length, sym, ap, ◌∙◌, subst, arith}
use Rattle.wasm_validate.specs.Body.Tops.{top_pushed}
use Rattle.wasm_validate.specs.Body.Views.{levels_of, AreHeights}
use Rattle.wasm_validate.proofs.BodyLemmas.LevelViews.{pushed_view, higher}
use Rattle.wasm_validate.proofs.body.levels.Levels.push.Goals as goal

pub invariant_of-self : goal.invariant_of-self
invariant_of-self c =
    subst (λ z. AreHeights c.self.inside.controls (length z)) (sym c.in_err-push.ensures.unchanged)
    c.self.invariant

pub invariant_of-self-2 : goal.invariant_of-self-2
invariant_of-self-2 c =
    subst (λ z. AreHeights c.self.inside.controls (length z)) (sym c.in_ok-push.ensures.pushed)
    (higher c.self.inside.controls (length c.self.inside.operands) (length (c.args.operand
    ∷ c.self.inside.operands)) c.self.invariant (omega arith))

pub returns-clause-pushed : goal.returns-clause-pushed
returns-clause-pushed c =
    ap (λ z. levels_of c.self.inside.controls z) c.in_ok-push.ensures.pushed
    ∙ pushed_view c.args.operand c.self.inside.controls c.self.inside.operands c.self.invariant
    ∙ ap (λ z. top_pushed c.args.operand z) c.self.view_is
