use Rattle.std.proofs.Common.{◌≡◌, sym, ap, ◌∙◌, subst, None, arith}
use Rattle.wasm_validate.specs.Body.Tops.{top_closed}
use Rattle.wasm_validate.proofs.BodyLemmas.LevelViews.{top_none, not_closed, closed_view}
use Rattle.wasm_validate.proofs.body.levels.Levels.close.Goals as goal

pub returns-in_default : goal.returns-in_default
returns-in_default c =
    ap top_closed (sym c.self.view_is
    ∙ top_none c.self.inside.controls c.self.inside.operands (sym c.get.ensures
    ∙ c.in_default.is))

pub returns-then-len-control : goal.returns-then-len-control
returns-then-len-control c =
    subst (λ z. top_closed z
    ≡ None) c.self.view_is
    (not_closed c.self.inside.controls c.self.inside.operands c.in-Some.control
    (sym c.get.ensures ∙ c.in-Some.is) (omega arith))

pub invariant_of-self : goal.invariant_of-self
invariant_of-self c =
    (closed_view c.self.inside.controls c.pop.new.self c.self.inside.operands c.in-Some.control
    (sym c.get.ensures ∙ c.in-Some.is) c.pop.ensures.others (omega arith) c.self.invariant).1

pub returns : goal.returns
returns c =
    ap top_closed (sym c.self.view_is)
    ∙ (closed_view c.self.inside.controls c.pop.new.self c.self.inside.operands c.in-Some.control
    (sym c.get.ensures ∙ c.in-Some.is) c.pop.ensures.others (omega arith) c.self.invariant).0
