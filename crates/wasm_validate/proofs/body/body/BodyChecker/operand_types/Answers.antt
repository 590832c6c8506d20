use Rattle.std.proofs.Common.{ap, ◌∙◌, subst}
use Rattle.wasm_rules.specs.Typing.{body_context}
use Rattle.wasm_rules.specs.Shapes.{body_shape}
use Rattle.wasm_validate.specs.Body.Answers.{IsReached}
use Rattle.wasm_validate.specs.Body.Known.{types_if_known}
use Rattle.wasm_validate.proofs.BodyLemmas.Positions.{types_found}
use Rattle.wasm_validate.proofs.body.body.BodyChecker.operand_types.Goals as goal

pub returns : goal.returns
returns c = λ c' context has.
    let levels = c.reaches.new.self.levels in
    let o =
    body_shape
    (body_context c' c.args.function_type.now c.args.code.now.locals) has.sequence c.args.position
    in
    let there = c.in_ok-reached.ensures c' context has in
    c.of.ensures ∙ ap types_if_known c.all_operands.ensures
    ∙ types_found levels o (subst (λ z. IsReached z levels o) c.if-not-reached.false there)
