use Rattle.std.proofs.Common.{◌≡◌, ℕ, drop, List, Option, Some}
use Rattle.wasm_syntax.specs.declared.value.Value.{Value}
use Rattle.wasm_rules.specs.Instantiation.{AreInitial, filled_table}
use Rattle.machine.proofs.instance.table.fill_table.Given as goal

abbrev pub invariant-loop-element : goal.invariant-loop-element
invariant-loop-element l = (values : List Value) (filled : List (Option ℕ))
    → AreInitial l.globals values → filled_table values l.elements l.initial.table ≡ Some filled
    → filled_table values (drop l.element-index l.elements) l.table ≡ Some filled
