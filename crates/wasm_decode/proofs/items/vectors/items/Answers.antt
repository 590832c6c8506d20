use Rattle.std.proofs.lemmas.Result.{err_from_is_err_and}
use Rattle.wasm_syntax.specs.laws.ReadingItems.{items_at}
use Rattle.wasm_syntax.proofs.Grammar.Loops.{items_go_on, items_fail, items_are_done}
use Rattle.wasm_decode.proofs.ItemLemmas.Fails.{fails_as}
use Rattle.wasm_decode.proofs.items.vectors.items.Goals as goal

pub returns-in_err-item : goal.returns-in_err-item
returns-in_err-item g c =
    let p = err_from_is_err_and c.from_residual.result c.from_residual.ensures.1 in
    let total = items_at g.T.Item.at c.args.count c.args.decoder.now in
    rw (p.1, p.2) (fails_as c.in_err-item.field-0.0 _ total (λ h.
    items_fail g.T.Item.at c.loop.items c.args.count c.loop.counter c.loop.decoder total
    c.loop-test.true h c.loop.invariant) c.in_err-item.ensures)

pub loop-preserved : goal.loop-preserved
loop-preserved g c =
    rw c.in_ok-push.ensures.pushed
    (items_go_on g.T.Item.at c.loop.items c.args.count c.loop.counter c.loop.decoder
    (items_at g.T.Item.at c.args.count c.args.decoder.now) c.in_ok-item.item c.read.new.decoder
    c.loop-test.true c.in_ok-item.ensures c.loop.invariant)

pub returns : goal.returns
returns g c =
    items_are_done g.T.Item.at c.loop.items c.args.count c.loop.counter c.loop.decoder
    (items_at g.T.Item.at c.args.count c.args.decoder.now) c.loop-test.false c.loop.invariant
