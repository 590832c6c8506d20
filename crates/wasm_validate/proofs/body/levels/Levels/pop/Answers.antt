use Rattle.std.proofs.Common.{◌≡◌, ◌<◌, true, false, Some, None, sym, ap, ◌∙◌, subst, length, arith}
use Rattle.std.specs.Option.{ok_or}
use Rattle.wasm_validate.specs.declared.parts.fault.ValidFault.TheVariants as fault
use Rattle.wasm_validate.specs.Body.Answers.{Pops}
use Rattle.wasm_validate.specs.Body.Tops.{top_popped}
use Rattle.wasm_validate.specs.Body.Views.{levels_of}
use Rattle.wasm_validate.proofs.BodyLemmas.LevelViews.{none_popped, pop_above, pop_bottom}
use Rattle.wasm_validate.proofs.body.levels.Levels.pop.Goals as goal

pub returns-in_default : goal.returns-in_default
returns-in_default c =
    subst (λ z. top_popped z
    ≡ None) c.self.view_is (none_popped c.self.inside.controls c.self.inside.operands
    (sym c.get.ensures ∙ c.in_default.is))

pub invariant_of-self : goal.invariant_of-self
invariant_of-self c =
    let above : c.in-Some.control.height < length c.self.inside.operands = omega arith in
    (pop_above c.self.inside.controls c.self.inside.operands c.pop.new.self c.in-Some.control
    c.pop.result (sym c.get.ensures
    ∙ c.in-Some.is) above c.pop.ensures.top c.pop.ensures.others c.self.invariant).3

pub returns-then-len-control : goal.returns-then-len-control
returns-then-len-control c =
    let above : c.in-Some.control.height < length c.self.inside.operands = omega arith in
    let t = pop_above c.self.inside.controls c.self.inside.operands c.pop.new.self c.in-Some.control
    c.pop.result (sym c.get.ensures
    ∙ c.in-Some.is) above c.pop.ensures.top c.pop.ensures.others c.self.invariant in
    let is = c.ok_or.ensures.value ∙ ap (λ z. ok_or z fault.Typing) t.1 in
    subst (λ z. Pops z (levels_of c.self.inside.controls c.pop.new.self)
    (top_popped c.args.self.now)) (sym is)
    (subst (λ z. top_popped z
    ≡ Some (t.0, levels_of c.self.inside.controls c.pop.new.self)) c.self.view_is t.2)

pub returns-then-control : goal.returns-then-control
returns-then-control c =
    let bottom =
    pop_bottom c.self.inside.controls c.self.inside.operands c.in-Some.control true
    (sym c.get.ensures ∙ c.in-Some.is) (omega arith) c.if-control.true c.self.invariant in
    subst (λ z. top_popped z ≡ None) c.self.view_is bottom

pub returns : goal.returns
returns c =
    let bottom =
    pop_bottom c.self.inside.controls c.self.inside.operands c.in-Some.control false
    (sym c.get.ensures ∙ c.in-Some.is) (omega arith) c.if-control.false c.self.invariant in
    subst (λ z. top_popped z ≡ Some (None, z)) c.self.view_is bottom
