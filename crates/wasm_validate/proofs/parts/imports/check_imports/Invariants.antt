use Rattle.std.proofs.Common.{drop}
use Rattle.wasm_validate.specs.declared.parts.fault.ValidFault.{ValidFault}
use Rattle.wasm_validate.specs.Parts.Parts.{AreImportsValid, IsFirstImportFault, nothing_before}
use Rattle.wasm_validate.proofs.parts.imports.check_imports.Given as goal

abbrev pub invariant-loop-import : goal.invariant-loop-import
invariant-loop-import l = record {
  valid : AreImportsValid l.types l.before (drop l.import-index l.imports)
      → AreImportsValid l.types nothing_before l.imports;
  refused : (e : ValidFault)
      → IsFirstImportFault l.types l.before (drop l.import-index l.imports) e
      → IsFirstImportFault l.types nothing_before l.imports e;
}
