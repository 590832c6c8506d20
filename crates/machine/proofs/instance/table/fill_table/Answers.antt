use Rattle.std.proofs.Common.{◌≡◌, ℕ, ◌+◌, ◌∙◌, ap, sym, subst, Option, Some, List, drop}
use Rattle.wasm_rules.specs.Instantiation.{offset_of, filled_table, with_entries}
use Rattle.machine.proofs.InstanceLemmas.Filled.{element_next, entries_put, with_entries_inside}
use Rattle.machine.proofs.instance.table.fill_table.Goals as goal

pub loop-element-preserved : goal.loop-element-preserved
loop-element-preserved c = λ values filled initial fills.
    let e = c.element-item.result in
    let table = c.loop-element.table in
    let from = c.unwrap-from.result in
    let functions = c.as_slice-in-loop-element.result.now in
    let f = element_next values c.args.elements.now c.loop-element.element-index table
    c.loop-element-test.true c.element-item.is
    (c.loop-element.invariant values filled initial fills) in
    let at : offset_of values e.offset ≡ Some from = ap (offset_of values) (sym c.as_slice.ensures)
    ∙ (sym (c.offset.ensures values initial) ∙ c.unwrap-from.ensures) in
    let first = f.offset in
    let same : f.from ≡ from = cc in
    let placed : with_entries table e.functions f.from
    ≡ Some (entries_put table e.functions f.from) = with_entries_inside table e.functions f.from
    f.inside in
    let written : with_entries table e.functions f.from ≡ Some c.write_entries.new.table =
    ap (with_entries table e.functions) same
    ∙ (ap (λ fs. with_entries table fs from) (sym c.as_slice-in-loop-element.ensures)
    ∙ c.write_entries.ensures) in
    let put : entries_put table e.functions f.from ≡ c.write_entries.new.table = cc in
    let P : List (Option ℕ) → Type 0 =
    λ t. filled_table values (drop (c.loop-element.element-index + 1) c.args.elements.now) t
    ≡ Some filled in
    subst P put f.others
