use Rattle.std.proofs.Common.{◌≡◌, ℕ, drop, List, Some}
use Rattle.wasm_syntax.specs.declared.value.Value.{Value}
use Rattle.wasm_rules.specs.Instantiation.{AreInitial, filled_memory}
use Rattle.machine.proofs.instance.memory.fill_memory.Given as goal

abbrev pub invariant-loop-segment : goal.invariant-loop-segment
invariant-loop-segment l = record {
  bytes : (values : List Value) (filled : List ℕ) → AreInitial l.globals values
      → filled_memory values l.segments l.initial.memory.bytes ≡ Some filled
      → filled_memory values (drop l.segment-index l.segments) l.memory.bytes ≡ Some filled;
  limit : l.memory.limit ≡ l.initial.memory.limit;
}
