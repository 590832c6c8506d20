use Rattle.std.proofs.Common.{drop}
use Rattle.wasm_rules.specs.Linking.{IsOffered}
use Rattle.wasm_validate.proofs.PartLemmas.Loops.{Passed}
use Rattle.machine.specs.declared.instance.fault.LinkFault.{LinkFault}
use Rattle.machine.specs.rules.Offers.{offer}
use Rattle.machine.specs.rules.Refusals.{AreImportsRefused}
use Rattle.machine.proofs.instance.calls.check_imports.Given as goal

abbrev pub invariant-loop-import : goal.invariant-loop-import
invariant-loop-import l = record {
  offered : Passed (IsOffered offer l.types) l.imports l.import-index;
  refused : (e : LinkFault) → AreImportsRefused l.types (drop l.import-index l.imports) e
      → AreImportsRefused l.types l.imports e;
}
