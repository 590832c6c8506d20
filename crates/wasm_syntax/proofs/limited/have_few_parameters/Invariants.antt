use Rattle.std.specs.Prelude.{drop}
use Rattle.std.specs.List.{AllByRecursion}
use Rattle.wasm_syntax.specs.rules.Limits.{HasFewParameters}
use Rattle.wasm_syntax.proofs.limited.have_few_parameters.Given as goal

abbrev pub invariant-loop-signature : goal.invariant-loop-signature
invariant-loop-signature l =
    AllByRecursion HasFewParameters (drop l.signature-index l.types)
    → AllByRecursion HasFewParameters l.types
