use Rattle.std.proofs.Common.{◌↔◌, IsTrue, List, refl, subst}
use Rattle.std.specs.List.{AllByRecursion}
use Rattle.wasm_syntax.specs.declared.types.TableType.{TableType}
use Rattle.wasm_syntax.specs.declared.module.Import.{Import}
use Rattle.wasm_rules.specs.Validity.{IsTableTypeValid}
use Rattle.wasm_validate.proofs.PartLemmas.Imported.{IsTableImportValid, tables_by_own, no_tables}
use Rattle.wasm_validate.proofs.parts.limits.are_tables_valid.Goals as goal

pub returns-then-are_imported_tables_valid : goal.returns-then-are_imported_tables_valid
returns-then-are_imported_tables_valid c =
    let m = c.args.module.now in
    let b = c.are_own_tables_valid.result in
    let P : List Import → Type 0 = AllByRecursion IsTableImportValid in
    let Q : List TableType → Type 0 = λ ts. IsTrue b ↔ AllByRecursion IsTableTypeValid ts in
    tables_by_own m.imports m.tables b
    (subst P c.as_slice.ensures (c.if-are_imported_tables_valid.ensures.0 refl))
    (subst Q c.as_slice-then-are_imported_tables_valid.ensures c.are_own_tables_valid.ensures)

pub returns-else-are_imported_tables_valid : goal.returns-else-are_imported_tables_valid
returns-else-are_imported_tables_valid c =
    let m = c.args.module.now in
    let b = c.are_imported_tables_valid.result in
    let P : List Import → Type 0 = λ is. IsTrue b ↔ AllByRecursion IsTableImportValid is in
    no_tables m.imports m.tables b (subst P c.as_slice.ensures c.are_imported_tables_valid.ensures)
    c.if-are_imported_tables_valid.false
