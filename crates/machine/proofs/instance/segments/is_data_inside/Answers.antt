use Rattle.std.proofs.Common.{ℕ, refl, sym, subst, List, length}
use Rattle.wasm_syntax.specs.declared.instruction.Instruction.{Instruction}
use Rattle.machine.specs.Initial.{IsInside}
use Rattle.wasm_validate.proofs.PartLemmas.Lookups.{is_false}
use Rattle.wasm_validate.proofs.PartLemmas.Loops.{passed, of_all}
use Rattle.machine.proofs.InstanceLemmas.Filled.{IsDataInside, memory_from_inside}
use Rattle.machine.proofs.InstanceLemmas.Filled.{inside_from_memory, some_of}
use Rattle.machine.proofs.instance.segments.is_data_inside.Goals as goal

pub returns-then-not-is_inside : goal.returns-then-not-is_inside
returns-then-not-is_inside c = λ values filled initial n. (
  λ t. absurd (is_false t),
  λ some.
      let all = some_of _ some in
      let e = c.segment-item.result in
      let inside =
      of_all (IsDataInside values c.args.size) c.args.segments.now c.loop-segment.segment-index e
      c.loop-segment-test.true c.segment-item.is
      (inside_from_memory values c.args.segments.now filled n all.1) in
      let O : List Instruction → Type 0 = λ o. IsInside values o (length e.bytes) c.args.size in
      let N : ℕ → Type 0 = λ count. IsInside values c.as_slice.result.now count c.args.size in
      let yes_it_is =
      (c.is_inside.ensures values initial).1 (subst N (sym c.len-count.ensures)
      (subst O (sym c.as_slice.ensures) inside)) in
      let none = c.if-not-is_inside.true in
      cc,
)

pub returns : goal.returns
returns c = λ values filled initial n. (
  λ t. memory_from_inside values c.args.segments.now filled n (passed
      (IsDataInside values c.args.size) c.args.segments.now c.loop-segment.segment-index
      c.loop-segment-test.false (c.loop-segment.invariant values initial)),
  λ some. refl,
)
