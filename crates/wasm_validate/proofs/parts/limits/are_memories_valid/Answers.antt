use Rattle.std.proofs.Common.{◌↔◌, IsTrue, List, refl, subst}
use Rattle.std.specs.List.{AllByRecursion}
use Rattle.wasm_syntax.specs.declared.types.MemoryType.{MemoryType}
use Rattle.wasm_syntax.specs.declared.module.Import.{Import}
use Rattle.wasm_rules.specs.Validity.{IsMemoryTypeValid}
use Rattle.wasm_validate.proofs.PartLemmas.Imported.{IsMemoryImportValid, memories_by_own}
use Rattle.wasm_validate.proofs.PartLemmas.Imported.{no_memories}
use Rattle.wasm_validate.proofs.parts.limits.are_memories_valid.Goals as goal

pub returns-then-are_imported_memories_valid : goal.returns-then-are_imported_memories_valid
returns-then-are_imported_memories_valid c =
    let m = c.args.module.now in
    let b = c.are_own_memories_valid.result in
    let P : List Import → Type 0 = AllByRecursion IsMemoryImportValid in
    let Q : List MemoryType → Type 0 = λ ts. IsTrue b ↔ AllByRecursion IsMemoryTypeValid ts in
    memories_by_own m.imports m.memories b
    (subst P c.as_slice.ensures (c.if-are_imported_memories_valid.ensures.0 refl))
    (subst Q c.as_slice-then-are_imported_memories_valid.ensures
    c.are_own_memories_valid.ensures)

pub returns-else-are_imported_memories_valid : goal.returns-else-are_imported_memories_valid
returns-else-are_imported_memories_valid c =
    let m = c.args.module.now in
    let b = c.are_imported_memories_valid.result in
    let P : List Import → Type 0 = λ is. IsTrue b ↔ AllByRecursion IsMemoryImportValid is in
    no_memories m.imports m.memories b
    (subst P c.as_slice.ensures c.are_imported_memories_valid.ensures)
    c.if-are_imported_memories_valid.false
