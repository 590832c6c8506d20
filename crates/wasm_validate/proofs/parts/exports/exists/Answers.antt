use Rattle.std.proofs.Common.{◌↔◌, IsTrue, sym, subst}
use Rattle.wasm_syntax.specs.declared.module.ExportItem.{ExportItem}
use Rattle.wasm_rules.specs.Validity.{module_context, IsExportItemValid}
use Rattle.wasm_validate.proofs.parts.exports.exists.Goals as goal

pub returns-in-Function : goal.returns-in-Function
returns-in-Function c = λ m functions s.
    let P : ExportItem → Type 0 = λ i. IsTrue c.is_function.result ↔ IsExportItemValid m functions i
    in
    subst P (sym c.in-Function.is) (c.is_function.ensures (module_context m functions) s.context)

pub returns-in-Table : goal.returns-in-Table
returns-in-Table c = λ m functions s.
    let P : ExportItem → Type 0 = λ i. IsTrue c.is_table.result ↔ IsExportItemValid m functions i in
    subst P (sym c.in-Table.is)
    (c.is_table.ensures (module_context m functions) s.context s.one_table)

pub returns-in-Memory : goal.returns-in-Memory
returns-in-Memory c = λ m functions s.
    let P : ExportItem → Type 0 = λ i. IsTrue c.is_memory.result ↔ IsExportItemValid m functions i
    in
    subst P (sym c.in-Memory.is)
    (c.is_memory.ensures (module_context m functions) s.context s.one_memory)

pub returns-in-Global : goal.returns-in-Global
returns-in-Global c = λ m functions s.
    let P : ExportItem → Type 0 = λ i. IsTrue c.is_global.result ↔ IsExportItemValid m functions i
    in
    subst P (sym c.in-Global.is) (c.is_global.ensures (module_context m functions) s.context)
