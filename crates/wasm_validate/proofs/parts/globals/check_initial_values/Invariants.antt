use Rattle.wasm_syntax.specs.declared.module.Global.{Global}
use Rattle.wasm_rules.specs.Validity.{IsConstant}
use Rattle.wasm_validate.proofs.PartLemmas.Loops.{Passed}
use Rattle.wasm_validate.proofs.parts.globals.check_initial_values.Given as goal

abbrev pub invariant-loop-global : goal.invariant-loop-global
invariant-loop-global l =
    Passed (λ (g : Global). IsConstant l.imported g.initial g.global_type.value_type) l.globals
    l.global-index
