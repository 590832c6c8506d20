use Rattle.std.proofs.Common.{◌≡◌, ◌++◌, replicate}
use Rattle.wasm_decode.proofs.items.codes.declare.Given as goal

abbrev pub invariant-loop : goal.invariant-loop
invariant-loop l = l.locals ≡ l.fn.locals ++ replicate l.counter l.value_type
