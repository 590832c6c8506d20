use Rattle.std.proofs.Common.{List}
use Rattle.wasm_syntax.specs.declared.types.FunctionType.{FunctionType}
use Rattle.wasm_rules.specs.Configuration.{Program}
use Rattle.wasm_rules.specs.Typed.{IsEntry}
use Rattle.wasm_validate.proofs.PartLemmas.Loops.{Passed}
use Rattle.machine.specs.Loading.Checks.{LooksUpCode}
use Rattle.machine.proofs.loading.limits.are_entries.Given as goal

abbrev pub invariant-loop-function : goal.invariant-loop-function
invariant-loop-function l = (functions : List FunctionType) (program : Program)
    → LooksUpCode l.code l.context functions program
    → Passed (IsEntry program) l.later l.function-index
