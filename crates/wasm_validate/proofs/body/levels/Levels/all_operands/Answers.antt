use Rattle.std.proofs.Common.{length, drop, sym, ap, ◌∙◌, arith}
use Rattle.std.specs.Prelude.{reverse}
use Rattle.std.proofs.lemmas.List.{length-reverse, take_rest}
use Rattle.wasm_validate.specs.laws.Reached.{all_operands}
use Rattle.wasm_validate.proofs.BodyLemmas.ReachedViews.{operands_above, none_below}
use Rattle.wasm_validate.proofs.body.levels.Levels.all_operands.Goals as goal

pub returns-in_default : goal.returns-in_default
returns-in_default c =
    ap (λ z. reverse (all_operands z))
    (sym (none_below c.self.inside.controls c.self.inside.operands (sym c.bottom.ensures
    ∙ c.in_default.is))
    ∙ c.self.view_is)

pub prove-unreachable-requires : goal.prove-unreachable-requires
prove-unreachable-requires c =
    let above = operands_above c.self.inside.controls c.self.inside.operands c.in-Some.outermost
    (sym c.bottom.ensures ∙ c.in-Some.is) c.self.invariant in
    let low = above.0 in
    let count = ap length c.as_slice-operands.ensures ∙ length-reverse c.self.inside.operands in
    let no = c.if-prove.true in
    omega arith

pub returns : goal.returns
returns c =
    let h = c.in-Some.outermost.height in
    let above = operands_above c.self.inside.controls c.self.inside.operands c.in-Some.outermost
    (sym c.bottom.ensures ∙ c.in-Some.is) c.self.invariant in
    take_rest c.as_slice-operands.result.now h
    ∙ ap (λ z. drop h z) c.as_slice-operands.ensures
    ∙ above.1
    ∙ ap (λ z. reverse (all_operands z)) c.self.view_is
