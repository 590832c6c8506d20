use Rattle.std.proofs.Common.{List}
use Rattle.wasm_syntax.specs.declared.value.Value.{Value}
use Rattle.wasm_rules.specs.Instantiation.{AreInitial}
use Rattle.wasm_validate.proofs.PartLemmas.Loops.{Passed}
use Rattle.machine.proofs.InstanceLemmas.Filled.{IsDataInside}
use Rattle.machine.proofs.instance.segments.is_data_inside.Given as goal

abbrev pub invariant-loop-segment : goal.invariant-loop-segment
invariant-loop-segment l = (values : List Value) → AreInitial l.globals values
    → Passed (IsDataInside values l.size) l.segments l.segment-index
