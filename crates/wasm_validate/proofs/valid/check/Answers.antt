use Rattle.std.proofs.Common.{List, subst}
use Rattle.std.specs.Prelude.{IfErr}
use Rattle.std.proofs.lemmas.Result.{err_from_is_err_and}
use Rattle.wasm_syntax.specs.declared.module.Function.{Function}
use Rattle.wasm_validate.specs.Parts.Parts.{IsFaultInFunctions}
use Rattle.wasm_validate.proofs.PartLemmas.Faults.{parts_fault, types_fault}
use Rattle.wasm_validate.proofs.valid.check.Goals as goal

pub returns-in_err-context-clause-fault : goal.returns-in_err-context-clause-fault
returns-in_err-context-clause-fault c =
    let p = err_from_is_err_and c.from_residual-in_err-context.result
    c.from_residual-in_err-context.ensures.1 in
    rw (p.1, p.2)
    (types_fault c.args.module.now c.in_err-context.field-0.0 c.in_err-context.ensures.refused)

pub returns-clause-fault : goal.returns-clause-fault
returns-clause-fault c =
    let m = c.args.module.now in
    let found = c.in_ok-context.ensures.found in
    let context = c.in_ok-context.ensures.context found.0 found.1 in
    let F : List Function → Type 0 = λ fs. IfErr c.check_functions.result
    (IsFaultInFunctions m found.0 fs) in
    parts_fault m c.check_functions.result found.0 found.1 (λ w. w.bodies) (λ n. n.bodies)
    (λ k. k.alignments) (subst F c.as_slice.ensures
    (c.check_functions.ensures.fault m found.0 context c.in_ok-check_types.ensures.valid.0))
