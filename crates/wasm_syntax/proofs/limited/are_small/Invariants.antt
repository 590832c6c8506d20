use Rattle.std.specs.Prelude.{drop}
use Rattle.std.specs.List.{AllByRecursion}
use Rattle.wasm_syntax.specs.rules.Limits.{IsSmallFunction}
use Rattle.wasm_syntax.proofs.limited.are_small.Given as goal

abbrev pub invariant-loop-function : goal.invariant-loop-function
invariant-loop-function l =
    AllByRecursion IsSmallFunction (drop l.function-index l.functions)
    → AllByRecursion IsSmallFunction l.functions
