use Rattle.std.proofs.Common.{◌≡◌, ◌≤◌, ◌-◌}
use Rattle.std.specs.Prelude.{count_by}
use Rattle.wasm_syntax.specs.declared.limits.TheConstants.{FUNCTIONS}
use Rattle.wasm_syntax.specs.rules.Limits.{is_function}
use Rattle.wasm_syntax.specs.laws.ReadingItems.{items_at}
use Rattle.wasm_syntax.specs.laws.ReadingWithin.{import_within_at}
use Rattle.wasm_syntax.proofs.Grammar.Loops.{with_front}
use Rattle.wasm_decode.proofs.imported.read_imports.Given as goal

abbrev pub invariant-loop : goal.invariant-loop
invariant-loop l = record {
  all : with_front l.items (items_at import_within_at (l.count - l.counter) l.decoder)
      ≡ items_at import_within_at l.count l.initial.decoder;
  counted : l.functions ≡ count_by is_function l.items;
  few : l.functions ≤ FUNCTIONS;
}
