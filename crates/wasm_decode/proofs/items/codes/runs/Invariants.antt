use Rattle.std.proofs.Common.{◌≡◌, ◌≤◌, ◌-◌, [], length}
use Rattle.wasm_syntax.specs.declared.limits.TheConstants.{LOCALS}
use Rattle.wasm_decode.specs.Items.Entries.{runs_onto_at}
use Rattle.wasm_decode.proofs.items.codes.runs.Given as goal

abbrev pub invariant-loop : goal.invariant-loop
invariant-loop l = record {
  all : runs_onto_at (l.count - l.counter) l.locals l.decoder
      ≡ runs_onto_at l.fn.count [] l.fn.decoder;
  few : length l.locals ≤ LOCALS;
}
