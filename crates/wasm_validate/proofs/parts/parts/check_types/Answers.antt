use Rattle.std.proofs.Common.{◌≡◌, List, subst}
use Rattle.std.specs.List.{AllByRecursion}
use Rattle.std.proofs.lemmas.Result.{err_from_is_err_and}
use Rattle.std.specs.Prelude.{IfErr}
use Rattle.wasm_syntax.specs.declared.types.FunctionType.{FunctionType}
use Rattle.wasm_syntax.specs.declared.module.Import.{Import}
use Rattle.wasm_rules.specs.Validity.{IsFunctionTypeValid}
use Rattle.wasm_validate.specs.declared.parts.fault.ValidFault.TheVariants.{Limits}
use Rattle.wasm_validate.specs.Parts.Parts.{IsFirstImportFault, nothing_before}
use Rattle.wasm_validate.proofs.PartLemmas.ImportFaults.{imports_denied, imports_told}
use Rattle.wasm_validate.proofs.PartLemmas.Faults.{limits_fault}
use Rattle.wasm_validate.proofs.parts.parts.check_types.Goals as goal

pub returns-clause-only : goal.returns-clause-only
returns-clause-only c =
    let m = c.args.module.now in
    let r = c.check_imports.result in
    let T : List FunctionType
    → Type 0 = λ types. IfErr r (IsFirstImportFault types nothing_before c.as_slice.result.now) in
    let I : List Import → Type 0 = λ imports. IfErr r
    (IsFirstImportFault m.types nothing_before imports) in
    imports_denied m r
    (subst I c.as_slice.ensures
    (subst T c.as_slice-types.ensures c.check_imports.ensures.refused))

pub returns-in_err-check_function_types-clause-fault :
    goal.returns-in_err-check_function_types-clause-fault
returns-in_err-check_function_types-clause-fault c =
    let p = err_from_is_err_and c.from_residual.result c.from_residual.ensures.1 in
    let T : List FunctionType
    → Type 0 = λ types. (c.in_err-check_function_types.field-0.0 ≡ Limits)
    × (AllByRecursion IsFunctionTypeValid types → ⊥) in
    rw (p.1, p.2) (limits_fault c.args.module.now c.in_err-check_function_types.field-0.0
    (λ k. k.types) (subst T c.as_slice-types.ensures c.in_err-check_function_types.ensures))

pub returns-clause-fault : goal.returns-clause-fault
returns-clause-fault c =
    let m = c.args.module.now in
    let r = c.check_imports.result in
    let T : List FunctionType
    → Type 0 = λ types. IfErr r (IsFirstImportFault types nothing_before c.as_slice.result.now) in
    let I : List Import → Type 0 = λ imports. IfErr r
    (IsFirstImportFault m.types nothing_before imports) in
    imports_told m r (subst I c.as_slice.ensures
    (subst T c.as_slice-types.ensures c.check_imports.ensures.refused))
