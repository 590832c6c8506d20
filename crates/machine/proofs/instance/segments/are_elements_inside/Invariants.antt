use Rattle.std.proofs.Common.{List}
use Rattle.wasm_syntax.specs.declared.value.Value.{Value}
use Rattle.wasm_rules.specs.Instantiation.{AreInitial}
use Rattle.wasm_validate.proofs.PartLemmas.Loops.{Passed}
use Rattle.machine.proofs.InstanceLemmas.Filled.{IsElementInside}
use Rattle.machine.proofs.instance.segments.are_elements_inside.Given as goal

abbrev pub invariant-loop-element : goal.invariant-loop-element
invariant-loop-element l = (values : List Value) → AreInitial l.globals values
    → Passed (IsElementInside values l.size) l.elements l.element-index
