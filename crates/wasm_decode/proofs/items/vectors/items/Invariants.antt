use Rattle.std.proofs.Common.{◌≡◌, ◌-◌}
use Rattle.wasm_syntax.specs.laws.ReadingItems.{items_at}
use Rattle.wasm_syntax.proofs.Grammar.Loops.{with_front}
use Rattle.wasm_decode.proofs.items.vectors.items.Given as goal

abbrev pub invariant-loop : goal.invariant-loop
invariant-loop g l = with_front l.items (items_at g.T.Item.at (l.count - l.counter) l.decoder)
    ≡ items_at g.T.Item.at l.fn.count l.fn.decoder
