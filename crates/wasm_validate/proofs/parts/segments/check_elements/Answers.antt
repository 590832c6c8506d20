use Rattle.std.proofs.lemmas.Result.{err_from_is_err_and}
use Rattle.wasm_rules.specs.Validity.{IsElementValid, globals_of}
use Rattle.wasm_validate.proofs.PartLemmas.Loops.{passes, passed, of_all}
use Rattle.wasm_validate.proofs.PartLemmas.Denied.{outright_as}
use Rattle.wasm_syntax.specs.declared.module.Element.{Element}
use Rattle.wasm_syntax.specs.declared.types.ValueType.TheVariants.{I32}
use Rattle.wasm_validate.specs.rules.Faults.{AreElementIndicesDefined, WouldBeConstant}
use Rattle.wasm_validate.proofs.PartLemmas.Faults.{one_as}
use Rattle.wasm_validate.proofs.parts.segments.check_elements.Goals as goal

pub returns-in_err-check_element-clause-valid : goal.returns-in_err-check_element-clause-valid
returns-in_err-check_element-clause-valid c = λ m functions s.
    let p = err_from_is_err_and c.from_residual.result c.from_residual.ensures.1 in
    rw (p.1, p.2) (outright_as c.in_err-check_element.field-0.0
    (of_all (IsElementValid m functions) c.args.elements.now c.loop-element.element-index
    c.element-item.result c.loop-element-test.true c.element-item.is)
    (c.in_err-check_element.ensures.valid m functions s))

pub loop-element-preserved : goal.loop-element-preserved
loop-element-preserved c = λ m functions s.
    passes
    (IsElementValid m functions) c.args.elements.now c.loop-element.element-index
    c.element-item.result c.loop-element-test.true c.element-item.is
    (c.in_ok-check_element.ensures.valid m functions s) (c.loop-element.invariant m functions s)

pub returns-clause-valid : goal.returns-clause-valid
returns-clause-valid c =
    λ m functions s. passed
    (IsElementValid m functions) c.args.elements.now c.loop-element.element-index
    c.loop-element-test.false (c.loop-element.invariant m functions s)

pub returns-in_err-check_element-clause-fault : goal.returns-in_err-check_element-clause-fault
returns-in_err-check_element-clause-fault c = λ m functions s.
    let p = err_from_is_err_and c.from_residual.result c.from_residual.ensures.1 in
    rw (p.1, p.2) (one_as c.in_err-check_element.field-0.0
    (of_all (λ (x : Element). WouldBeConstant
    (globals_of m) x.offset I32) c.args.elements.now c.loop-element.element-index
    c.element-item.result c.loop-element-test.true c.element-item.is)
    (of_all
    (AreElementIndicesDefined m functions) c.args.elements.now c.loop-element.element-index
    c.element-item.result c.loop-element-test.true c.element-item.is)
    (λ u. u)
    (c.in_err-check_element.ensures.fault m functions s))
