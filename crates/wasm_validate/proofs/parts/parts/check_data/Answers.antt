use Rattle.std.proofs.Common.{List, subst}
use Rattle.std.specs.Prelude.{IfErr}
use Rattle.wasm_syntax.specs.declared.module.Data.{Data}
use Rattle.wasm_validate.specs.Parts.Parts.{IsFaultInData, IsModuleContext}
use Rattle.wasm_validate.proofs.PartLemmas.Faults.{parts_fault}
use Rattle.wasm_validate.proofs.parts.parts.check_data.Goals as goal

pub returns-clause-fault : goal.returns-clause-fault
returns-clause-fault c =
    let m = c.args.module.now in
    let functions = c.requires.before.0 in
    let are = c.requires.before.1 in
    let valid = c.requires.before.2 in
    let s : IsModuleContext m functions c.args.context.now =
    record {
      context = c.requires.context functions are;
      one_table = valid.one_table;
      one_memory = valid.one_memory;
    } in
    let D : List Data → Type 0 = λ ss. IfErr c.check_data_segments.result (IsFaultInData m ss) in
    parts_fault m c.check_data_segments.result functions are (λ w. w.data_segments)
    (λ n. n.data_segments) (λ k. tt)
    (subst D c.as_slice.ensures (c.check_data_segments.ensures.fault m functions s))
