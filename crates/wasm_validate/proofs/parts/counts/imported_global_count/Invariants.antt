use Rattle.std.proofs.Common.{◌≡◌, ◌+◌, ◌≤◌, length, drop}
use Rattle.wasm_rules.specs.Types.{imported_globals}
use Rattle.wasm_validate.proofs.parts.counts.imported_global_count.Given as goal

abbrev pub invariant-loop-import : goal.invariant-loop-import
invariant-loop-import l = record {
  all : l.count + length (imported_globals (drop l.import-index l.imports))
      ≡ length (imported_globals l.imports);
  few : l.count ≤ l.import-index;
}
