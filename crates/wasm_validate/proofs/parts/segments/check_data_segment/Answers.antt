use Rattle.std.proofs.Common.{refl}
use Rattle.wasm_rules.specs.Validity.{module_context}
use Rattle.wasm_validate.specs.rules.Faults.{NamesGlobal}
use Rattle.wasm_validate.proofs.PartLemmas.Denied.{decides_as}
use Rattle.wasm_validate.proofs.PartLemmas.Lookups.{is_false}
use Rattle.wasm_syntax.specs.declared.types.ValueType.TheVariants.{I32}
use Rattle.wasm_validate.proofs.PartLemmas.Faults.{constant_there, ones_as, turns_told}
use Rattle.wasm_validate.proofs.parts.segments.check_data_segment.Goals as goal

pub returns-then-not-is_memory-clause-valid : goal.returns-then-not-is_memory-clause-valid
returns-then-not-is_memory-clause-valid c =
    λ m functions s d. is_false
    ((c.if-not-is_memory.ensures (module_context m functions) s.context s.one_memory).1 d.0)

pub returns-clause-valid : goal.returns-clause-valid
returns-clause-valid c = λ m functions s.
    let t = module_context m functions in
    let all = c.globals.ensures t s.context in
    let bytes = rw c.as_slice.ensures at c.are_bytes.ensures in
    decides_as (NamesGlobal c.globals.result.now c.as_slice-2.result.now) c.check_constant.result
    (λ constant. (
      (c.if-not-is_memory.ensures t s.context s.one_memory).0 refl,
      rw (all, c.as_slice-2.ensures) at constant,
      bytes,
    ))
    (λ d. rw (all, c.as_slice-2.ensures) d.1)
    c.check_constant.ensures

pub returns-then-not-is_memory-clause-fault : goal.returns-then-not-is_memory-clause-fault
returns-then-not-is_memory-clause-fault c =
    λ m functions s n. is_false
    ((c.if-not-is_memory.ensures (module_context m functions) s.context s.one_memory).1 n.0)

pub returns-clause-fault : goal.returns-clause-fault
returns-clause-fault c = λ m functions s.
    let all = c.globals.ensures (module_context m functions) s.context in
    ones_as c.check_constant.result (λ t. rw (all, c.as_slice-2.ensures) t)
    (λ n. rw (all, c.as_slice-2.ensures) n.1) (λ u. u)
    (turns_told c.check_constant.result
    (constant_there c.globals.result.now c.as_slice-2.result.now I32) c.check_constant.ensures)
