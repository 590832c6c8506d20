use Rattle.std.proofs.Common.{◌≡◌, drop}
use Rattle.wasm_validate.specs.Body.Known.{are_known}
use Rattle.wasm_validate.proofs.body.types.are_known.Given as goal

abbrev pub invariant-loop-operand : goal.invariant-loop-operand
invariant-loop-operand l = are_known l.operands ≡ are_known (drop l.operand-index l.operands)
