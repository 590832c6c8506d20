use Rattle.std.proofs.Common.{drop}
use Rattle.wasm_syntax.specs.declared.module.ExportItem.{ExportItem}
use Rattle.wasm_rules.specs.Linking.{Exports}
use Rattle.machine.proofs.instance.exports.find_export.Given as goal

abbrev pub invariant-loop-export : goal.invariant-loop-export
invariant-loop-export l = (item : ExportItem) → Exports l.exports l.name item
    → Exports (drop l.export-index l.exports) l.name item
