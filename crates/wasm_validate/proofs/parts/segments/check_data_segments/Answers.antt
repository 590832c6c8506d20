use Rattle.std.proofs.lemmas.Result.{err_from_is_err_and}
use Rattle.wasm_rules.specs.Validity.{IsDataValid, globals_of}
use Rattle.wasm_validate.proofs.PartLemmas.Loops.{passes, passed, of_all}
use Rattle.wasm_validate.proofs.PartLemmas.Denied.{outright_as}
use Rattle.wasm_syntax.specs.declared.module.Data.{Data}
use Rattle.wasm_syntax.specs.declared.types.ValueType.TheVariants.{I32}
use Rattle.wasm_validate.specs.rules.Faults.{AreDataIndicesDefined, WouldBeConstant}
use Rattle.wasm_validate.proofs.PartLemmas.Faults.{one_as}
use Rattle.wasm_validate.proofs.parts.segments.check_data_segments.Goals as goal

pub returns-in_err-check_data_segment-clause-valid :
    goal.returns-in_err-check_data_segment-clause-valid
returns-in_err-check_data_segment-clause-valid c = λ m functions s.
    let p = err_from_is_err_and c.from_residual.result c.from_residual.ensures.1 in
    rw (p.1, p.2) (outright_as c.in_err-check_data_segment.field-0.0
    (of_all (IsDataValid m) c.args.segments.now c.loop-segment.segment-index c.segment-item.result
    c.loop-segment-test.true c.segment-item.is)
    (c.in_err-check_data_segment.ensures.valid m functions s))

pub loop-segment-preserved : goal.loop-segment-preserved
loop-segment-preserved c = λ m functions s.
    passes
    (IsDataValid m) c.args.segments.now c.loop-segment.segment-index c.segment-item.result
    c.loop-segment-test.true c.segment-item.is
    (c.in_ok-check_data_segment.ensures.valid m functions s)
    (c.loop-segment.invariant m functions s)

pub returns-clause-valid : goal.returns-clause-valid
returns-clause-valid c =
    λ m functions s. passed
    (IsDataValid m) c.args.segments.now c.loop-segment.segment-index c.loop-segment-test.false
    (c.loop-segment.invariant m functions s)

pub returns-in_err-check_data_segment-clause-fault :
    goal.returns-in_err-check_data_segment-clause-fault
returns-in_err-check_data_segment-clause-fault c = λ m functions s.
    let p = err_from_is_err_and c.from_residual.result c.from_residual.ensures.1 in
    rw (p.1, p.2) (one_as c.in_err-check_data_segment.field-0.0
    (of_all (λ (x : Data). WouldBeConstant
    (globals_of m) x.offset I32) c.args.segments.now c.loop-segment.segment-index
    c.segment-item.result c.loop-segment-test.true c.segment-item.is)
    (of_all
    (AreDataIndicesDefined m) c.args.segments.now c.loop-segment.segment-index c.segment-item.result
    c.loop-segment-test.true c.segment-item.is)
    (λ u. u)
    (c.in_err-check_data_segment.ensures.fault m functions s))
