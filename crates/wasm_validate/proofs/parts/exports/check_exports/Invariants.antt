use Rattle.std.proofs.Common.{◌↔◌, List, drop}
use Rattle.wasm_syntax.specs.declared.module.Module.{Module}
use Rattle.wasm_syntax.specs.declared.module.Export.{Export}
use Rattle.wasm_syntax.specs.declared.types.FunctionType.{FunctionType}
use Rattle.wasm_rules.specs.Validity.{IsExportItemValid, HaveDistinctNames}
use Rattle.wasm_validate.specs.Parts.Parts.{IsModuleContext}
use Rattle.wasm_validate.proofs.PartLemmas.Loops.{Passed}
use Rattle.wasm_validate.proofs.PartLemmas.Names.{AreNewNames}
use Rattle.wasm_validate.proofs.parts.exports.check_exports.Given as goal

abbrev pub invariant-loop-export : goal.invariant-loop-export
invariant-loop-export l = record {
  items : (m : Module) (functions : List FunctionType) → IsModuleContext m functions l.context
      → Passed (λ (e : Export). IsExportItemValid m functions e.item) l.exports l.export-index;
  names : HaveDistinctNames l.exports ↔ AreNewNames l.names.keys (drop l.export-index l.exports);
}
