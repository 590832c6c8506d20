use Rattle.std.proofs.Common.{List, subst, Err}
use Rattle.std.specs.Prelude.{IfErr}
use Rattle.std.specs.List.{AllByRecursion}
use Rattle.std.proofs.lemmas.Result.{err_from_is_err_and}
use Rattle.wasm_syntax.specs.declared.types.FunctionType.{FunctionType}
use Rattle.wasm_syntax.specs.declared.module.Export.{Export}
use Rattle.wasm_syntax.specs.declared.module.Element.{Element}
use Rattle.wasm_rules.specs.Validity.{module_context, IsFunctionTypeValid, IsExportItemValid}
use Rattle.wasm_rules.specs.Validity.{HaveDistinctNames, IsElementValid}
use Rattle.wasm_validate.specs.rules.Answers.{Decides, JudgesExports}
use Rattle.wasm_validate.specs.Parts.Parts.{IsFaultInElements, IsModuleContext}
use Rattle.wasm_validate.proofs.PartLemmas.Denied.{turn_as, denies_as, judges_as}
use Rattle.wasm_validate.proofs.PartLemmas.Faults.{exports_fault, limits_fault, part_fault}
use Rattle.wasm_validate.proofs.PartLemmas.Faults.{parts_fault, start_there, turn_told}
use Rattle.wasm_validate.proofs.parts.parts.check_before_data.Goals as goal

pub returns-in_err-check_start-clause-valid : goal.returns-in_err-check_start-clause-valid
returns-in_err-check_start-clause-valid c = λ functions are.
    let p = err_from_is_err_and c.from_residual-in_err-check_start.result
    c.from_residual-in_err-check_start.ensures.1 in
    let e = c.in_err-check_start.field-0.0 in
    rw (p.1, p.2)
    (denies_as e (λ v. v.start)
    (turn_as e (λ v.
    v) (c.in_err-check_start.ensures (module_context c.args.module.now functions)
    (c.requires.context functions are))))

pub returns-clause-valid : goal.returns-clause-valid
returns-clause-valid c = λ functions are.
    let m = c.args.module.now in
    let is = c.requires.context functions are in
    let tables = c.in_ok-check_tables.ensures in
    let memories = c.in_ok-check_memories.ensures in
    let s : IsModuleContext m functions c.args.context.now =
    record { context = is; one_table = tables.1; one_memory = memories.1 } in
    let T : List FunctionType → Type 0 = AllByRecursion IsFunctionTypeValid in
    let E : List Export → Type 0 =
    λ es. AllByRecursion (λ (e : Export). IsExportItemValid m functions e.item) es
    × HaveDistinctNames es in
    let L : List Element → Type 0 =
    λ es. Decides c.check_elements.result (AllByRecursion (IsElementValid m functions) es) in
    let exports = subst E c.as_slice.ensures (c.in_ok-check_exports.ensures m functions s) in
    judges_as c.check_elements.result
    (λ elements. record {
      types = c.requires.sound;
      tables = tables.0;
      memories = memories.0;
      one_table = tables.1;
      one_memory = memories.1;
      globals = c.in_ok-check_globals.ensures.valid;
      exports = exports.0;
      names = exports.1;
      start = c.in_ok-check_start.ensures (module_context m functions) is;
      elements = elements;
    })
    (λ v. v.elements)
    (subst L c.as_slice-2.ensures (c.check_elements.ensures.valid m functions s))

pub returns-in_err-check_tables-clause-fault : goal.returns-in_err-check_tables-clause-fault
returns-in_err-check_tables-clause-fault c =
    let p = err_from_is_err_and c.from_residual.result c.from_residual.ensures.1 in
    rw (p.1, p.2) (limits_fault c.args.module.now c.in_err-check_tables.field-0.0
    (λ k. (k.tables, k.one_table)) c.in_err-check_tables.ensures)

pub returns-in_err-check_memories-clause-fault : goal.returns-in_err-check_memories-clause-fault
returns-in_err-check_memories-clause-fault c =
    let p = err_from_is_err_and c.from_residual-in_err-check_memories.result
    c.from_residual-in_err-check_memories.ensures.1 in
    rw (p.1, p.2) (limits_fault c.args.module.now c.in_err-check_memories.field-0.0
    (λ k. (k.memories, k.one_memory)) c.in_err-check_memories.ensures)

pub returns-in_err-check_globals-clause-fault : goal.returns-in_err-check_globals-clause-fault
returns-in_err-check_globals-clause-fault c =
    let p = err_from_is_err_and c.from_residual-in_err-check_globals.result
    c.from_residual-in_err-check_globals.ensures.1 in
    rw (p.1, p.2)
    (part_fault c.args.module.now c.requires.types.0 c.requires.types.1
    c.in_err-check_globals.field-0.0 (λ w. w.globals) (λ n. n.globals) (λ k.
    tt) c.in_err-check_globals.ensures.fault)

pub returns-in_err-check_exports-clause-fault : goal.returns-in_err-check_exports-clause-fault
returns-in_err-check_exports-clause-fault c =
    let p = err_from_is_err_and c.from_residual-in_err-check_exports.result
    c.from_residual-in_err-check_exports.ensures.1 in
    let e = c.in_err-check_exports.field-0.0 in
    let m = c.args.module.now in
    let functions = c.requires.types.0 in
    let tables = c.in_ok-check_tables.ensures in
    let memories = c.in_ok-check_memories.ensures in
    let s : IsModuleContext m functions c.args.context.now =
    record {
      context = c.requires.context functions c.requires.types.1;
      one_table = tables.1;
      one_memory = memories.1;
    } in
    let E : List Export → Type 0 = λ es. JudgesExports {X = Unit {0}} (Err e)
    (AllByRecursion (λ (x : Export). IsExportItemValid m functions x.item) es)
    (HaveDistinctNames es) in
    rw (p.1, p.2) (exports_fault m functions c.requires.types.1 e
    (subst E c.as_slice.ensures (c.in_err-check_exports.ensures m functions s)))

pub returns-in_err-check_start-clause-fault : goal.returns-in_err-check_start-clause-fault
returns-in_err-check_start-clause-fault c =
    let p = err_from_is_err_and c.from_residual-in_err-check_start.result
    c.from_residual-in_err-check_start.ensures.1 in
    let e = c.in_err-check_start.field-0.0 in
    let m = c.args.module.now in
    let functions = c.requires.types.0 in
    let are = c.requires.types.1 in
    rw (p.1, p.2) (part_fault m functions are e (λ w. w.start) (λ n. n.start) (λ k. tt)
    (turn_told e (start_there functions m.start)
    (c.in_err-check_start.ensures (module_context m functions) (c.requires.context functions are))))

pub returns-clause-fault : goal.returns-clause-fault
returns-clause-fault c =
    let m = c.args.module.now in
    let functions = c.requires.types.0 in
    let are = c.requires.types.1 in
    let tables = c.in_ok-check_tables.ensures in
    let memories = c.in_ok-check_memories.ensures in
    let s : IsModuleContext m functions c.args.context.now =
    record {
      context = c.requires.context functions are;
      one_table = tables.1;
      one_memory = memories.1;
    } in
    let L : List Element → Type 0 = λ es. IfErr c.check_elements.result
    (IsFaultInElements m functions es) in
    parts_fault m c.check_elements.result functions are (λ w. w.elements) (λ n. n.elements)
    (λ k. tt) (subst L c.as_slice-2.ensures (c.check_elements.ensures.fault m functions s))
