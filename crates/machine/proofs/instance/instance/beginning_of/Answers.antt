use Rattle.std.proofs.Common.{List, refl, sym, ◌∙◌, subst}
use Rattle.std.specs.List.{AllByRecursion}
use Rattle.std.proofs.lemmas.Result.{err_from_is_err_and}
use Rattle.wasm_syntax.specs.declared.types.MemoryType.{MemoryType}
use Rattle.wasm_rules.specs.Validity.{IsMemoryTypeValid}
use Rattle.wasm_syntax.specs.declared.module.Import.{Import}
use Rattle.wasm_rules.specs.Linking.{FitsPages, IsOffered}
use Rattle.machine.specs.rules.Offers.{offer}
use Rattle.machine.specs.declared.instance.instance.Beginning.{Beginning}
use Rattle.machine.specs.Linked.{instance_of}
use Rattle.machine.proofs.InstanceLemmas.Begun.{own_memories, can_fill_table, can_fill_memory}
use Rattle.machine.proofs.InstanceLemmas.Begun.{linked_by, could_be_linked}
use Rattle.machine.proofs.instance.instance.beginning_of.Goals as goal

pub returns-in_err-entry-clause-refused : goal.returns-in_err-entry-clause-refused
returns-in_err-entry-clause-refused c =
    let p = err_from_is_err_and c.from_residual.result c.from_residual.ensures.1 in
    rw (p.1, p.2) c.in_err-entry.ensures.refused

pub imported_calls-requires : goal.imported_calls-requires
imported_calls-requires c =
    let m = c.args.module.now in
    let P : List Import → Type 0 = λ is. AllByRecursion (IsOffered offer m.types) is in
    (m.types, subst P (sym c.as_slice.ensures) c.in_ok-entry.ensures.prepared.offered)

pub initial_table-requires : goal.initial_table-requires
initial_table-requires c =
    let p = c.in_ok-entry.ensures.prepared in
    rw (
      c.as_slice-constants.ensures,
      c.as_slice-elements.ensures,
      c.as_slice-2.ensures,
    ) (can_fill_table c.args.module.now p.offered p.begins)

pub initial_memory-requires-clause-valid : goal.initial_memory-requires-clause-valid
initial_memory-requires-clause-valid c =
    let P : List MemoryType → Type 0 = AllByRecursion IsMemoryTypeValid in
    subst P (own_memories c.args.module.now c.in_ok-entry.ensures.prepared.offered
    ∙ sym c.as_slice-memories.ensures) c.requires.valid.memories

pub initial_memory-requires-clause-fits : goal.initial_memory-requires-clause-fits
initial_memory-requires-clause-fits c =
    let P : List MemoryType → Type 0 = λ ms. FitsPages ms c.args.pages in
    subst P (own_memories c.args.module.now c.in_ok-entry.ensures.prepared.offered
    ∙ sym c.as_slice-memories.ensures) c.in_ok-entry.ensures.prepared.fits

pub initial_memory-requires-clause-inside : goal.initial_memory-requires-clause-inside
initial_memory-requires-clause-inside c =
    let p = c.in_ok-entry.ensures.prepared in
    rw (
      c.as_slice-constants.ensures,
      c.as_slice-segments.ensures,
      c.as_slice-memories.ensures,
    ) (can_fill_memory c.args.module.now p.offered p.begins)

pub returns-clause-linked : goal.returns-clause-linked
returns-clause-linked c =
    let m = c.args.module.now in
    let b : Beginning = record {
      entry = c.in_ok-entry.entry;
      calls = c.in_ok-calls.calls;
      memory = c.in_ok-memory.memory;
      globals = c.in_ok-globals.globals;
      table = c.in_ok-table.table;
    } in
    linked_by (instance_of m b) refl c.in_ok-entry.ensures.prepared
    (rw c.as_slice-constants.ensures at c.in_ok-globals.ensures) (rw (
      c.as_slice-constants.ensures,
      c.as_slice-elements.ensures,
      c.as_slice-2.ensures,
    ) at c.in_ok-table.ensures)
    (rw (
      c.as_slice-constants.ensures,
      c.as_slice-segments.ensures,
      c.as_slice-memories.ensures,
    ) at c.in_ok-memory.ensures.bytes)
    (rw c.as_slice-memories.ensures at c.in_ok-memory.ensures.limit)
    (rw c.as_slice.ensures at c.in_ok-calls.ensures)

pub returns-in_err-calls-clause-refused : goal.returns-in_err-calls-clause-refused
returns-in_err-calls-clause-refused c =
    let p = err_from_is_err_and c.from_residual-in_err-calls.result
    c.from_residual-in_err-calls.ensures.1 in
    rw (p.1, p.2) (could_be_linked c.in_ok-entry.ensures.prepared)

pub returns-in_err-globals-clause-refused : goal.returns-in_err-globals-clause-refused
returns-in_err-globals-clause-refused c =
    let p = err_from_is_err_and c.from_residual-in_err-globals.result
    c.from_residual-in_err-globals.ensures.1 in
    rw (p.1, p.2) (could_be_linked c.in_ok-entry.ensures.prepared)

pub returns-in_err-table-clause-refused : goal.returns-in_err-table-clause-refused
returns-in_err-table-clause-refused c =
    let p = err_from_is_err_and c.from_residual-in_err-table.result
    c.from_residual-in_err-table.ensures.1 in
    rw (p.1, p.2) (could_be_linked c.in_ok-entry.ensures.prepared)

pub returns-in_err-memory-clause-refused : goal.returns-in_err-memory-clause-refused
returns-in_err-memory-clause-refused c =
    let p = err_from_is_err_and c.from_residual-in_err-memory.result
    c.from_residual-in_err-memory.ensures.1 in
    rw (p.1, p.2) (could_be_linked c.in_ok-entry.ensures.prepared)
