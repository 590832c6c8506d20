use Rattle.std.proofs.Common.{◌≡◌, List, [], ◌∷◌, Option, Some, None, false, sym, ap, ◌∙◌}
use Rattle.std.proofs.lemmas.Result.{err_from_is_err_and}
use Rattle.wasm_rules.specs.Typing.{body_context}
use Rattle.wasm_validate.specs.laws.Checking.{Level, new_level, checked}
use Rattle.wasm_validate.specs.laws.FirstFault.{fault_in}
use Rattle.wasm_validate.proofs.BodyLemmas.Fails.{denies, denies_one}
use Rattle.wasm_validate.proofs.BodyLemmas.FaultMeanings.{first_index, first_limit, passed_fault}
use Rattle.wasm_validate.proofs.BodyLemmas.Untyped.{untyped}
use Rattle.wasm_validate.proofs.BodyLemmas.Bodies.{body_sound, body_complete}
use Rattle.wasm_validate.proofs.body.body.BodyChecker.check.Goals as goal

some_not_none : {X : Type 0} (o : Option X) (x : X) → o ≡ Some x → o ≡ None → ⊥
some_not_none o x e h = absurd (cc)

not_empty : (o : Option (List Level)) (new : List Level) → o ≡ Some new → o ≡ Some [] → new ≡ []
not_empty o new e h = cc

pub returns-in_err-steps-clause-typed : goal.returns-in_err-steps-clause-typed
returns-in_err-steps-clause-typed c = λ c' context.
    let p = err_from_is_err_and c.from_residual-in_err-steps.result
    c.from_residual-in_err-steps.ensures.1 in
    let signature = c.args.function_type.now in
    let code = c.args.code.now in
    let r = c.result_of.result in
    let bc = body_context c' signature code.locals in
    let start = c.in_ok-begin.ensures.opened in
    let steps = c.in_err-steps.ensures bc (c.scope_of-scope.ensures c' context) in
    rw (p.1, p.2)
    (denies c.in_err-steps.field-0.0 (fault_in bc c.as_slice.result.now c.begin.new.self.levels)
    (checked bc c.as_slice.result.now c.begin.new.self.levels)
    (λ none body. some_not_none (checked bc code.body (new_level r r false ∷ [])) []
    (body_complete c' signature code r c.result_of.ensures body)
    (ap (λ z. checked bc z (new_level r r false ∷ [])) (sym c.as_slice.ensures)
    ∙ ap (λ z. checked bc c.as_slice.result.now z) (sym start) ∙ none))
    steps)

pub returns-then-is_empty-clause-typed : goal.returns-then-is_empty-clause-typed
returns-then-is_empty-clause-typed c = λ c' context.
    let signature = c.args.function_type.now in
    let code = c.args.code.now in
    let r = c.result_of.result in
    let bc = body_context c' signature code.locals in
    let start = c.in_ok-begin.ensures.opened in
    let steps = c.in_ok-steps.ensures bc (c.scope_of-scope.ensures c' context) in
    let closed = c.is_empty.ensures.0 c.if-is_empty.true in
    body_sound c' signature code r c.result_of.ensures
    (ap (λ z. checked bc z (new_level r r false ∷ [])) (sym c.as_slice.ensures)
    ∙ ap (λ z. checked bc c.as_slice.result.now z) (sym start) ∙ steps
    ∙ ap (λ z. Some z) closed)

pub returns-else-is_empty-clause-typed : goal.returns-else-is_empty-clause-typed
returns-else-is_empty-clause-typed c = λ c' context body.
    let signature = c.args.function_type.now in
    let code = c.args.code.now in
    let r = c.result_of.result in
    let bc = body_context c' signature code.locals in
    let start = c.in_ok-begin.ensures.opened in
    let steps = c.in_ok-steps.ensures bc (c.scope_of-scope.ensures c' context) in
    let here = ap (λ z. checked bc z (new_level r r false ∷ [])) (sym c.as_slice.ensures)
    ∙ ap (λ z. checked bc c.as_slice.result.now z) (sym start) ∙ steps in
    let none = not_empty (checked bc code.body (new_level r r false ∷ [])) c.steps.new.self here
    (body_complete c' signature code r c.result_of.ensures body) in
    let yes = c.is_empty.ensures.1 none in
    let no = c.if-is_empty.false in
    absurd (cc)

pub returns-in_err-steps-clause-fault : goal.returns-in_err-steps-clause-fault
returns-in_err-steps-clause-fault c = λ c' context.
    let p = err_from_is_err_and c.from_residual-in_err-steps.result
    c.from_residual-in_err-steps.ensures.1 in
    let signature = c.args.function_type.now in
    let code = c.args.code.now in
    let r = c.result_of.result in
    let bc = body_context c' signature code.locals in
    let start = c.in_ok-begin.ensures.opened in
    let steps = c.in_err-steps.ensures bc (c.scope_of-scope.ensures c' context) in
    let checked_is = ap (λ z. checked bc z (new_level r r false ∷ [])) (sym c.as_slice.ensures)
    ∙ ap (λ z. checked bc c.as_slice.result.now z) (sym start) in
    let fault_is = ap (λ z. fault_in bc z (new_level r r false ∷ [])) (sym c.as_slice.ensures)
    ∙ ap (λ z. fault_in bc c.as_slice.result.now z) (sym start) in
    rw (p.1, p.2)
    (denies_one c.in_err-steps.field-0.0 (fault_in bc c.as_slice.result.now c.begin.new.self.levels)
    (checked bc c.as_slice.result.now c.begin.new.self.levels)
    (λ none which_fault. untyped c' signature code r c.result_of.ensures
    (λ some. some_not_none (checked bc code.body (new_level r r false ∷ [])) [] some
    (checked_is ∙ none)) (fault_is ∙ which_fault))
    (λ which_fault. first_index bc code.body (new_level r r false ∷ []) (fault_is ∙ which_fault))
    (λ which_fault. first_limit bc code.body (new_level r r false ∷ []) (fault_is ∙ which_fault))
    steps)

pub returns-else-is_empty-clause-fault : goal.returns-else-is_empty-clause-fault
returns-else-is_empty-clause-fault c = λ c' context.
    let signature = c.args.function_type.now in
    let code = c.args.code.now in
    let r = c.result_of.result in
    let bc = body_context c' signature code.locals in
    let start = c.in_ok-begin.ensures.opened in
    let steps = c.in_ok-steps.ensures bc (c.scope_of-scope.ensures c' context) in
    let here = ap (λ z. checked bc z (new_level r r false ∷ [])) (sym c.as_slice.ensures)
    ∙ ap (λ z. checked bc c.as_slice.result.now z) (sym start) ∙ steps in
    untyped c' signature code r c.result_of.ensures
    (λ passes. let none = not_empty
    (checked bc code.body
    (new_level r r false ∷ [])) c.steps.new.self here passes in let yes = c.is_empty.ensures.1 none
    in let no = c.if-is_empty.false in absurd (cc))
    (passed_fault bc code.body (new_level r r false ∷ []) c.steps.new.self here)
