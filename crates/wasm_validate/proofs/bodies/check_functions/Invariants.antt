use Rattle.std.proofs.Common.{List}
use Rattle.std.specs.List.{AllByRecursion}
use Rattle.wasm_syntax.specs.declared.types.FunctionType.{FunctionType}
use Rattle.wasm_syntax.specs.declared.module.Module.{Module}
use Rattle.wasm_rules.specs.Validity.{IsFunctionTypeValid, IsFunctionValid, module_context}
use Rattle.wasm_validate.specs.Parts.Contexts.{IsContextOf}
use Rattle.wasm_validate.proofs.PartLemmas.Loops.{Passed}
use Rattle.wasm_validate.proofs.bodies.check_functions.Given as goal

abbrev pub invariant-loop-function : goal.invariant-loop-function
invariant-loop-function l =
    (m : Module) (functions : List FunctionType)
    → IsContextOf (module_context m functions) l.context
    → AllByRecursion IsFunctionTypeValid m.types
    → Passed (IsFunctionValid m functions) l.own l.function-index
