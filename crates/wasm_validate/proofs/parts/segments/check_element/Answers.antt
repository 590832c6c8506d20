use Rattle.std.proofs.Common.{◌<◌, refl}
use Rattle.std.proofs.lemmas.Result.{err_from_is_err_and}
use Rattle.std.proofs.lemmas.List.Elements.{All-from_recursion, recursion_from_All}
use Rattle.wasm_rules.specs.Validity.{module_context}
use Rattle.wasm_validate.proofs.PartLemmas.Denied.{turn_as}
use Rattle.wasm_validate.proofs.PartLemmas.Lookups.{is_false}
use Rattle.wasm_syntax.specs.declared.types.ValueType.TheVariants.{I32}
use Rattle.wasm_validate.proofs.PartLemmas.Faults.{constant_there, one_as, turn_told}
use Rattle.wasm_validate.proofs.parts.segments.check_element.Goals as goal

pub returns-then-not-is_table-clause-valid : goal.returns-then-not-is_table-clause-valid
returns-then-not-is_table-clause-valid c =
    λ m functions s d. is_false
    ((c.if-not-is_table.ensures (module_context m functions) s.context s.one_table).1 d.0)

pub returns-in_err-check_constant-clause-valid : goal.returns-in_err-check_constant-clause-valid
returns-in_err-check_constant-clause-valid c = λ m functions s.
    let p = err_from_is_err_and c.from_residual.result c.from_residual.ensures.1 in
    let all = c.globals.ensures (module_context m functions) s.context in
    rw (p.1, p.2) (turn_as c.in_err-check_constant.field-0.0
    (λ d. rw (all, c.as_slice.ensures) d.1)
    c.in_err-check_constant.ensures)

pub returns-then-are_below-clause-valid : goal.returns-then-are_below-clause-valid
returns-then-are_below-clause-valid c = λ m functions s.
    let t = module_context m functions in
    let count = c.function_count.ensures t s.context in
    let all = c.globals.ensures t s.context in
    let constant = rw (all, c.as_slice.ensures) at c.in_ok-check_constant.ensures in
    let below = rw (
      c.as_slice-2.ensures,
      count,
    ) at (recursion_from_All (λ x. x < c.function_count.result) c.as_slice-2.result.now
    (c.if-are_below.ensures.0 refl)) in
    ((c.if-not-is_table.ensures t s.context s.one_table).0 refl, constant, below)

pub returns-else-are_below-clause-valid : goal.returns-else-are_below-clause-valid
returns-else-are_below-clause-valid c = λ m functions s d.
    let count = c.function_count.ensures (module_context m functions) s.context in
    is_false (c.if-are_below.ensures.1 (All-from_recursion (λ x. x
    < c.function_count.result) c.as_slice-2.result.now (rw (c.as_slice-2.ensures, count) d.2)))

pub returns-then-not-is_table-clause-fault : goal.returns-then-not-is_table-clause-fault
returns-then-not-is_table-clause-fault c =
    λ m functions s n. is_false
    ((c.if-not-is_table.ensures (module_context m functions) s.context s.one_table).1 n.0)

pub returns-in_err-check_constant-clause-fault : goal.returns-in_err-check_constant-clause-fault
returns-in_err-check_constant-clause-fault c = λ m functions s.
    let p = err_from_is_err_and c.from_residual.result c.from_residual.ensures.1 in
    let e = c.in_err-check_constant.field-0.0 in
    let all = c.globals.ensures (module_context m functions) s.context in
    rw (p.1, p.2) (one_as e (λ t. rw (all, c.as_slice.ensures) t)
    (λ n. rw (all, c.as_slice.ensures) n.1) (λ u. u)
    (turn_told e
    (constant_there c.globals.result.now c.as_slice.result.now I32)
    c.in_err-check_constant.ensures))

pub returns-else-are_below-clause-fault : goal.returns-else-are_below-clause-fault
returns-else-are_below-clause-fault c = λ m functions s n.
    let count = c.function_count.ensures (module_context m functions) s.context in
    is_false (c.if-are_below.ensures.1
    (All-from_recursion (λ x. x < c.function_count.result) c.as_slice-2.result.now
    (rw (c.as_slice-2.ensures, count) n.2)))
