use Rattle.std.proofs.Common.{List}
use Rattle.wasm_syntax.specs.declared.module.Module.{Module}
use Rattle.wasm_syntax.specs.declared.types.FunctionType.{FunctionType}
use Rattle.wasm_rules.specs.Validity.{IsDataValid}
use Rattle.wasm_validate.specs.Parts.Parts.{IsModuleContext}
use Rattle.wasm_validate.proofs.PartLemmas.Loops.{Passed}
use Rattle.wasm_validate.proofs.parts.segments.check_data_segments.Given as goal

abbrev pub invariant-loop-segment : goal.invariant-loop-segment
invariant-loop-segment l = (m : Module) (functions : List FunctionType)
    → IsModuleContext m functions l.context → Passed (IsDataValid m) l.segments l.segment-index
