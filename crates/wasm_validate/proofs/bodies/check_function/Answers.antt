use Rattle.std.proofs.Common.{sym, ◌<◌, length, arith}
use Rattle.wasm_rules.specs.Validity.{module_context}
use Rattle.wasm_validate.proofs.Functions.{no_type, many_results, judged, body_told, not_named}
use Rattle.wasm_validate.proofs.Functions.{too_many}
use Rattle.wasm_validate.proofs.bodies.check_function.Goals as goal

pub returns-in_default-clause-valid : goal.returns-in_default-clause-valid
returns-in_default-clause-valid c = λ m functions context types.
    no_type m functions c.args.function.now
    (sym (c.in_default.ensures (module_context m functions) context))

pub returns-then-len-gt1-clause-valid : goal.returns-then-len-gt1-clause-valid
returns-then-len-gt1-clause-valid c = λ m functions context types.
    let more : 1 < length c.in-Some.function_type.now.results = omega arith in
    many_results m functions c.args.function.now c.in-Some.function_type.now
    (sym (c.in-Some.ensures (module_context m functions) context)) types more

pub returns-clause-valid : goal.returns-clause-valid
returns-clause-valid c = λ m functions context types.
    judged m functions c.args.function.now c.in-Some.function_type.now c.check.result
    (sym (c.in-Some.ensures (module_context m functions) context))
    (c.check.ensures.typed (module_context m functions) context)

pub returns-in_default-clause-fault : goal.returns-in_default-clause-fault
returns-in_default-clause-fault c = λ m functions context types n.
    not_named m functions c.args.function.now
    (sym (c.in_default.ensures (module_context m functions) context)) n

pub returns-then-len-gt1-clause-fault : goal.returns-then-len-gt1-clause-fault
returns-then-len-gt1-clause-fault c = λ m functions context types aligned.
    let more : 1 < length c.in-Some.function_type.now.results = omega arith in
    too_many m functions c.args.function.now c.in-Some.function_type.now
    (sym (c.in-Some.ensures (module_context m functions) context)) types more

pub returns-clause-fault : goal.returns-clause-fault
returns-clause-fault c = λ m functions context types.
    body_told m functions c.args.function.now c.in-Some.function_type.now c.check.result
    (sym (c.in-Some.ensures (module_context m functions) context))
    (c.check.ensures.fault (module_context m functions) context)
