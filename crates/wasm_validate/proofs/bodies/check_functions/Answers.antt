use Rattle.std.proofs.lemmas.Result.{err_from_is_err_and}
use Rattle.wasm_rules.specs.Validity.{IsFunctionValid}
use Rattle.wasm_validate.proofs.PartLemmas.Loops.{passes, passed, of_all}
use Rattle.wasm_validate.proofs.PartLemmas.Denied.{denies_still}
use Rattle.wasm_validate.specs.rules.Faults.{IsFunctionAligned, AreFunctionIndicesDefined}
use Rattle.wasm_validate.specs.rules.Faults.{WouldHaveType}
use Rattle.wasm_validate.proofs.PartLemmas.Faults.{one_as}
use Rattle.wasm_validate.proofs.bodies.check_functions.Goals as goal

pub returns-in_err-check_function-clause-valid : goal.returns-in_err-check_function-clause-valid
returns-in_err-check_function-clause-valid c = λ m functions context types.
    let p = err_from_is_err_and c.from_residual.result c.from_residual.ensures.1 in
    rw (p.1, p.2) (denies_still c.in_err-check_function.field-0.0
    (of_all (IsFunctionValid m functions) c.args.own.now c.loop-function.function-index
    c.function-item.result c.loop-function-test.true c.function-item.is)
    (c.in_err-check_function.ensures.valid m functions context types))

pub loop-function-preserved : goal.loop-function-preserved
loop-function-preserved c = λ m functions context types.
    passes
    (IsFunctionValid m functions) c.args.own.now c.loop-function.function-index
    c.function-item.result c.loop-function-test.true c.function-item.is
    (c.in_ok-check_function.ensures.valid m functions context types)
    (c.loop-function.invariant m functions context types)

pub returns-clause-valid : goal.returns-clause-valid
returns-clause-valid c = λ m functions context types.
    passed (IsFunctionValid m functions) c.args.own.now c.loop-function.function-index
    c.loop-function-test.false (c.loop-function.invariant m functions context types)

pub returns-in_err-check_function-clause-fault : goal.returns-in_err-check_function-clause-fault
returns-in_err-check_function-clause-fault c = λ m functions context types.
    let p = err_from_is_err_and c.from_residual.result c.from_residual.ensures.1 in
    rw (p.1, p.2) (one_as c.in_err-check_function.field-0.0
    (of_all
    (WouldHaveType m functions) c.args.own.now c.loop-function.function-index c.function-item.result
    c.loop-function-test.true c.function-item.is)
    (of_all
    (AreFunctionIndicesDefined m functions) c.args.own.now c.loop-function.function-index
    c.function-item.result c.loop-function-test.true c.function-item.is)
    (of_all IsFunctionAligned c.args.own.now c.loop-function.function-index c.function-item.result
    c.loop-function-test.true c.function-item.is)
    (c.in_err-check_function.ensures.fault m functions context types))
