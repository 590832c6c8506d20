use Rattle.std.proofs.Common.{sym, subst, List}
use Rattle.std.proofs.lemmas.Result.{err_from_is_err_and}
use Rattle.wasm_syntax.specs.declared.instruction.Instruction.{Instruction}
use Rattle.wasm_syntax.specs.declared.module.Global.{Global}
use Rattle.wasm_rules.specs.Validity.{IsConstant}
use Rattle.wasm_validate.proofs.PartLemmas.Loops.{passes, of_all}
use Rattle.wasm_validate.proofs.PartLemmas.Denied.{turn_as}
use Rattle.wasm_validate.specs.rules.Answers.{DeniesOne}
use Rattle.wasm_validate.specs.rules.Faults.{NamesGlobal, WouldBeConstant}
use Rattle.wasm_validate.proofs.PartLemmas.Faults.{constant_there, one_as, turn_told}
use Rattle.wasm_validate.proofs.parts.globals.check_initial_values.Goals as goal

pub returns-in_err-check_constant-clause-valid : goal.returns-in_err-check_constant-clause-valid
returns-in_err-check_constant-clause-valid c =
    let p = err_from_is_err_and c.from_residual.result c.from_residual.ensures.1 in
    let g = c.global-item.result in
    let P : Global → Type 0 = λ g. IsConstant c.args.imported.now g.initial g.global_type.value_type
    in
    let Q : List Instruction → Type 0 =
    λ e. IsConstant c.args.imported.now e g.global_type.value_type in
    rw (p.1, p.2) (turn_as c.in_err-check_constant.field-0.0
    (λ all. subst Q (sym c.as_slice.ensures)
    (of_all P c.args.globals.now c.loop-global.global-index g c.loop-global-test.true
    c.global-item.is all))
    c.in_err-check_constant.ensures)

pub loop-global-preserved : goal.loop-global-preserved
loop-global-preserved c =
    let g = c.global-item.result in
    let P : Global → Type 0 = λ g. IsConstant c.args.imported.now g.initial g.global_type.value_type
    in
    let Q : List Instruction → Type 0 =
    λ e. IsConstant c.args.imported.now e g.global_type.value_type in
    passes P c.args.globals.now c.loop-global.global-index g c.loop-global-test.true
    c.global-item.is (subst Q c.as_slice.ensures c.in_ok-check_constant.ensures)
    c.loop-global.invariant

pub returns-in_err-check_constant-clause-fault : goal.returns-in_err-check_constant-clause-fault
returns-in_err-check_constant-clause-fault c =
    let p = err_from_is_err_and c.from_residual.result c.from_residual.ensures.1 in
    let globals = c.args.imported.now in
    let g = c.global-item.result in
    let T : Global → Type 0 = λ g. WouldBeConstant globals g.initial g.global_type.value_type in
    let I : Global → Type 0 = λ g. NamesGlobal globals g.initial in
    let D : List Instruction → Type 0 = λ e. DeniesOne c.in_err-check_constant.field-0.0
    (WouldBeConstant globals e g.global_type.value_type) (NamesGlobal globals e) (Unit {0}) in
    let told = turn_told c.in_err-check_constant.field-0.0
    (constant_there globals c.as_slice.result.now g.global_type.value_type)
    c.in_err-check_constant.ensures in
    rw (p.1, p.2) (one_as c.in_err-check_constant.field-0.0
    (of_all T c.args.globals.now c.loop-global.global-index g c.loop-global-test.true
    c.global-item.is)
    (of_all I c.args.globals.now c.loop-global.global-index g c.loop-global-test.true
    c.global-item.is)
    (λ u. u)
    (subst D c.as_slice.ensures told))
