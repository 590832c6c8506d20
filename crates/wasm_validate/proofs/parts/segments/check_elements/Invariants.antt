use Rattle.std.proofs.Common.{List}
use Rattle.wasm_syntax.specs.declared.module.Module.{Module}
use Rattle.wasm_syntax.specs.declared.types.FunctionType.{FunctionType}
use Rattle.wasm_rules.specs.Validity.{IsElementValid}
use Rattle.wasm_validate.specs.Parts.Parts.{IsModuleContext}
use Rattle.wasm_validate.proofs.PartLemmas.Loops.{Passed}
use Rattle.wasm_validate.proofs.parts.segments.check_elements.Given as goal

abbrev pub invariant-loop-element : goal.invariant-loop-element
invariant-loop-element l = (m : Module) (functions : List FunctionType)
    → IsModuleContext m functions l.context
    → Passed (IsElementValid m functions) l.elements l.element-index
