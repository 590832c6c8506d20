use Rattle.std.proofs.Common.{◌≡◌, ◌+◌, ◌≤◌, length, drop}
use Rattle.wasm_rules.specs.Types.{imported_tables}
use Rattle.wasm_validate.proofs.parts.counts.imported_table_count.Given as goal

abbrev pub invariant-loop-import : goal.invariant-loop-import
invariant-loop-import l = record {
  all : l.count + length (imported_tables (drop l.import-index l.imports))
      ≡ length (imported_tables l.imports);
  few : l.count ≤ l.import-index;
}
