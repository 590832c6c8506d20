use Rattle.std.proofs.Common.{◌<◌, ◌∷◌, [], false, length, take, Ok, sym, ap, ◌∙◌, subst, arith}
use Rattle.std.proofs.lemmas.Result.{err_from_is_err_and}
use Rattle.wasm_rules.specs.Types.{results_of}
use Rattle.wasm_rules.specs.Typing.{body_context}
use Rattle.wasm_rules.specs.Shapes.{body_shape}
use Rattle.wasm_validate.specs.Body.Answers.{FailsToCheck, TellsReach}
use Rattle.wasm_validate.specs.Body.Tops.{top_all_pushed}
use Rattle.wasm_validate.specs.laws.Checking.{new_level, checked}
use Rattle.wasm_validate.specs.laws.FirstFault.{fault_in}
use Rattle.wasm_validate.proofs.BodyLemmas.Positions.{behind_end, beyond_end, inside, fails_inside}
use Rattle.wasm_validate.proofs.body.body.BodyChecker.go_to.Goals as goal

pub returns-then-position-body : goal.returns-then-position-body
returns-then-position-body c = λ c' context has.
    let r = c.result_of-result_type.result in
    behind_end c' c.args.function_type.now c.args.code.now r c.result_of-result_type.ensures has
    c.args.position c.push_results.new.self
    (c.if-position-body.true ∙ ap length c.as_slice-body.ensures)
    (c.in_ok-push_results.ensures.pushed
    ∙ ap (λ z. top_all_pushed (results_of r) z) c.in_ok-begin.ensures.opened)

pub returns-then-position-body-2 : goal.returns-then-position-body-2
returns-then-position-body-2 c = λ c' context has.
    let count = ap length c.as_slice-body.ensures in
    let more = c.if-position-body-2.true in
    beyond_end c' c.args.function_type.now c.args.code.now c.result_of-result_type.result
    c.result_of-result_type.ensures has c.args.position c.begin.new.self.levels (omega arith)

pub returns-in_err-steps : goal.returns-in_err-steps
returns-in_err-steps c = λ c' context has.
    let e =
    err_from_is_err_and c.from_residual-in_err-steps.result c.from_residual-in_err-steps.ensures.1
    in
    let p = c.args.position in
    let r = c.result_of-result_type.result in
    let signature = c.args.function_type.now in
    let code = c.args.code.now in
    let bc = body_context c' signature code.locals in
    let count = ap length c.as_slice-body.ensures in
    let other = c.if-position-body.false in
    let few = c.if-position-body-2.false in
    let low : p < length code.body = omega arith in
    let path = ap (λ z. checked bc (take p z) (new_level r r false ∷ []))
    (sym c.as_slice-body.ensures)
    ∙ ap (λ z. checked bc (take p c.as_slice-body.result.now) z)
    (sym c.in_ok-begin.ensures.opened) in
    let steps = c.in_err-steps.ensures bc (c.scope_of-scope.ensures c' context) in
    let fault = fault_in bc (take p c.as_slice-body.result.now) c.begin.new.self.levels in
    rw (e.1, e.2)
    (fails_inside c' signature code r c.result_of-result_type.ensures has p low
    c.in_err-steps.field-0.0 fault
    (subst (λ z. FailsToCheck c.in_err-steps.field-0.0 fault z) (sym path) steps))

pub returns : goal.returns
returns c = λ c' context has.
    let p = c.args.position in
    let r = c.result_of-result_type.result in
    let signature = c.args.function_type.now in
    let code = c.args.code.now in
    let bc = body_context c' signature code.locals in
    let count = ap length c.as_slice-body.ensures in
    let other = c.if-position-body.false in
    let few = c.if-position-body-2.false in
    let low : p < length code.body = omega arith in
    let path = ap (λ z. checked bc (take p z) (new_level r r false ∷ []))
    (sym c.as_slice-body.ensures)
    ∙ ap (λ z. checked bc (take p c.as_slice-body.result.now) z)
    (sym c.in_ok-begin.ensures.opened) in
    let steps = c.in_ok-steps.ensures bc (c.scope_of-scope.ensures c' context) in
    subst (λ z. TellsReach (Ok z) c.steps.new.self (body_shape bc has.sequence p))
    (sym c.are_reached.ensures)
    (inside c' signature code r c.result_of-result_type.ensures has p low c.steps.new.self (path
    ∙ steps))
