use Rattle.std.proofs.Common.{ℕ, refl, sym, subst, List, length}
use Rattle.wasm_syntax.specs.declared.instruction.Instruction.{Instruction}
use Rattle.machine.specs.Initial.{IsInside}
use Rattle.wasm_validate.proofs.PartLemmas.Lookups.{is_false}
use Rattle.wasm_validate.proofs.PartLemmas.Loops.{passed, of_all}
use Rattle.machine.proofs.InstanceLemmas.Filled.{IsElementInside, table_from_inside}
use Rattle.machine.proofs.InstanceLemmas.Filled.{inside_from_table, some_of}
use Rattle.machine.proofs.instance.segments.are_elements_inside.Goals as goal

pub returns-then-not-is_inside : goal.returns-then-not-is_inside
returns-then-not-is_inside c = λ values filled initial n. (
  λ t. absurd (is_false t),
  λ some.
      let all = some_of _ some in
      let e = c.element-item.result in
      let inside =
      of_all (IsElementInside values c.args.size) c.args.elements.now c.loop-element.element-index e
      c.loop-element-test.true c.element-item.is
      (inside_from_table values c.args.elements.now filled n all.1) in
      let O : List Instruction → Type 0 = λ o. IsInside values o (length e.functions) c.args.size in
      let N : ℕ → Type 0 = λ count. IsInside values c.as_slice.result.now count c.args.size in
      let yes_it_is =
      (c.is_inside.ensures values initial).1 (subst N (sym c.len-count.ensures)
      (subst O (sym c.as_slice.ensures) inside)) in
      let none = c.if-not-is_inside.true in
      cc,
)

pub returns : goal.returns
returns c = λ values filled initial n. (
  λ t. table_from_inside values c.args.elements.now filled n (passed
      (IsElementInside values c.args.size) c.args.elements.now c.loop-element.element-index
      c.loop-element-test.false (c.loop-element.invariant values initial)),
  λ some. refl,
)
