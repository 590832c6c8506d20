use Rattle.std.proofs.Common.{◌*◌, ◌↔◌, IsTrue, List, length, sym, ap, ◌∙◌, subst}
use Rattle.std.specs.Prelude.{IsSome}
use Rattle.std.proofs.lemmas.List.{length-replicate}
use Rattle.wasm_syntax.specs.declared.value.Value.{Value}
use Rattle.wasm_syntax.specs.declared.module.Global.{Global}
use Rattle.wasm_syntax.specs.declared.module.Element.{Element}
use Rattle.wasm_syntax.specs.declared.module.Data.{Data}
use Rattle.wasm_rules.specs.Instantiation.{AreInitial, filled_table, filled_memory}
use Rattle.wasm_rules.specs.Instantiation.{empty_table, empty_memory}
use Rattle.machine.proofs.InstanceLemmas.Begun.{begins_by, begins_nowhere}
use Rattle.machine.proofs.instance.segments.can_begin.Goals as goal

pub returns-then-are_elements_inside : goal.returns-then-are_elements_inside
returns-then-are_elements_inside c =
    let m = c.args.module.now in
    let elements : (values : List Value) → AreInitial m.globals values
    → IsTrue c.are_elements_inside.result
    ↔ IsSome (filled_table values m.elements (empty_table m.tables)) = λ values initial.
    let G : List Global → Type 0 = λ gs. AreInitial gs values in
    let E : List Element → Type 0 = λ es. IsTrue c.are_elements_inside.result
    ↔ IsSome (filled_table values es (empty_table m.tables)) in
    subst E c.as_slice-3.ensures (c.are_elements_inside.ensures values (empty_table m.tables)
    (subst G (sym c.as_slice-globals.ensures) initial) (ap (λ ts. length (empty_table ts))
    (sym c.as_slice.ensures) ∙ c.table_size-entries.ensures)) in
    let segments : (values : List Value) → AreInitial m.globals values
    → IsTrue c.is_data_inside.result
    ↔ IsSome (filled_memory values m.data_segments (empty_memory m.memories)) =
    λ values initial.
    let G : List Global → Type 0 = λ gs. AreInitial gs values in
    let D : List Data → Type 0 = λ ds. IsTrue c.is_data_inside.result
    ↔ IsSome (filled_memory values ds (empty_memory m.memories)) in
    subst D c.as_slice-then-are_elements_inside.ensures (c.is_data_inside.ensures values
    (empty_memory m.memories) (subst G (sym c.as_slice-globals.ensures) initial)
    (ap (λ ms. length (empty_memory ms)) (sym c.as_slice-2.ensures)
    ∙ (ap length c.first_pages.ensures.empty
    ∙ length-replicate (c.first_pages.result * 65536) 0))) in
    begins_by c.requires.valid c.requires.offered c.is_data_inside.result elements segments
    c.if-are_elements_inside.true

pub returns-else-are_elements_inside : goal.returns-else-are_elements_inside
returns-else-are_elements_inside c =
    let m = c.args.module.now in
    let elements : (values : List Value) → AreInitial m.globals values
    → IsTrue c.are_elements_inside.result
    ↔ IsSome (filled_table values m.elements (empty_table m.tables)) = λ values initial.
    let G : List Global → Type 0 = λ gs. AreInitial gs values in
    let E : List Element → Type 0 = λ es. IsTrue c.are_elements_inside.result
    ↔ IsSome (filled_table values es (empty_table m.tables)) in
    subst E c.as_slice-3.ensures (c.are_elements_inside.ensures values (empty_table m.tables)
    (subst G (sym c.as_slice-globals.ensures) initial) (ap (λ ts. length (empty_table ts))
    (sym c.as_slice.ensures) ∙ c.table_size-entries.ensures)) in
    begins_nowhere m c.requires.offered elements c.if-are_elements_inside.false
