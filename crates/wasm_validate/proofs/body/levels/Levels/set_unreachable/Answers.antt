use Rattle.std.proofs.Common.{◌≡◌, List, [], ◌∷◌, length, drop, refl, sym, ap, ◌∙◌, subst, false}
use Rattle.wasm_validate.specs.laws.Checking.{Level}
use Rattle.wasm_validate.specs.Body.Tops.{top_unreached}
use Rattle.wasm_validate.specs.Body.Views.{levels_of, AreHeights}
use Rattle.wasm_validate.proofs.BodyLemmas.LevelViews.{top_none, unreached_view}
use Rattle.wasm_validate.proofs.body.levels.Levels.set_unreachable.Goals as goal

none_left : (levels : List Level) → levels ≡ [] → levels ≡ top_unreached levels
none_left [] e = refl
none_left (l ∷ levels) e = absurd (cc)

pub returns-in_default : goal.returns-in_default
returns-in_default c =
    none_left c.args.self.now (sym c.self.view_is
    ∙ top_none c.self.inside.controls c.self.inside.operands (sym c.get.ensures
    ∙ c.in_default.is))

pub invariant_of-self : goal.invariant_of-self
invariant_of-self c =
    let r = unreached_view c.self.inside.controls c.self.inside.operands c.in-Some.control
    (sym c.get.ensures ∙ c.in-Some.is) c.self.invariant in
    subst (λ z. AreHeights z (length c.truncate.new.self)) (sym c.replace.ensures)
    (subst (λ z. AreHeights (record c.in-Some.control { is_reached = false }
    ∷ drop 1 c.self.inside.controls) (length z)) (sym c.truncate.ensures) r.1)

pub returns : goal.returns
returns c =
    let r = unreached_view c.self.inside.controls c.self.inside.operands c.in-Some.control
    (sym c.get.ensures ∙ c.in-Some.is) c.self.invariant in
    ap (λ z. levels_of z c.truncate.new.self) c.replace.ensures
    ∙ ap (λ z. levels_of (record c.in-Some.control { is_reached = false }
    ∷ drop 1 c.self.inside.controls) z) c.truncate.ensures
    ∙ r.0
    ∙ ap top_unreached c.self.view_is
