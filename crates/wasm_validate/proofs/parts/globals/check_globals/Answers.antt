use Rattle.std.proofs.Common.{length, map, ap, ◌∙◌, List, subst, take}
use Rattle.std.specs.List.{AllByRecursion}
use Rattle.wasm_syntax.specs.declared.types.GlobalType.{GlobalType}
use Rattle.wasm_syntax.specs.declared.module.Global.{Global}
use Rattle.wasm_rules.specs.Types.{imported_globals, global_type_of}
use Rattle.wasm_rules.specs.Validity.{module_context, IsConstant}
use Rattle.wasm_validate.specs.rules.Answers.{Decides}
use Rattle.wasm_validate.proofs.PartLemmas.Lookups.{take-front, length-front}
use Rattle.std.specs.Prelude.{IfErr}
use Rattle.wasm_validate.specs.Parts.Parts.{IsFaultInGlobals}
use Rattle.wasm_validate.proofs.parts.globals.check_globals.Goals as goal

pub slice_bounds-imported-end : goal.slice_bounds-imported-end
slice_bounds-imported-end c =
    let m = c.args.module.now in
    let all = c.globals.ensures (module_context m c.requires.types.0)
    (c.requires.context c.requires.types.0 c.requires.types.1) in
    let count = c.imported_global_count-count.ensures
    ∙ ap (λ i. length (imported_globals i)) c.as_slice.ensures in
    length-front (imported_globals m.imports) (map global_type_of m.globals) c.globals.result.now _
    all count

pub returns-clause-valid : goal.returns-clause-valid
returns-clause-valid c =
    let m = c.args.module.now in
    let all = c.globals.ensures (module_context m c.requires.types.0)
    (c.requires.context c.requires.types.0 c.requires.types.1) in
    let count = c.imported_global_count-count.ensures
    ∙ ap (λ i. length (imported_globals i)) c.as_slice.ensures in
    let P : List Global → List GlobalType → Type 0 =
    λ gs ts. Decides c.check_initial_values.result (AllByRecursion (λ (g : Global).
    IsConstant ts g.initial g.global_type.value_type) gs) in
    let Q : List Global → Type 0 =
    λ gs. P gs (take c.imported_global_count-count.result c.globals.result.now) in
    subst (P m.globals) (take-front (imported_globals m.imports)
    (map global_type_of m.globals) c.globals.result.now _ all count)
    (subst Q c.as_slice-2.ensures c.check_initial_values.ensures.valid)

pub returns-clause-fault : goal.returns-clause-fault
returns-clause-fault c =
    let m = c.args.module.now in
    let all = c.globals.ensures (module_context m c.requires.types.0)
    (c.requires.context c.requires.types.0 c.requires.types.1) in
    let count = c.imported_global_count-count.ensures
    ∙ ap (λ i. length (imported_globals i)) c.as_slice.ensures in
    let P : List Global → List GlobalType
    → Type 0 = λ gs ts. IfErr c.check_initial_values.result (IsFaultInGlobals ts gs) in
    let Q : List Global → Type 0 =
    λ gs. P gs (take c.imported_global_count-count.result c.globals.result.now) in
    subst (P m.globals) (take-front (imported_globals m.imports)
    (map global_type_of m.globals) c.globals.result.now _ all count)
    (subst Q c.as_slice-2.ensures c.check_initial_values.ensures.fault)
