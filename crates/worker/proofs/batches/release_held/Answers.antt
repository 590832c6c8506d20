use Rattle.worker.proofs.DurableLemmas.Queueing.{one_more_held, one_refused}
use Rattle.worker.proofs.batches.release_held.Goals as goal

pub returns-then-is_err-clause-some : goal.returns-then-is_err-clause-some
returns-then-is_err-clause-some g c =
    one_refused g.O.Outlet.takes c.args.outlet.now c.loop-line.outlet c.release-said.new.self
    c.args.lines.now c.loop-line.line-index c.line-item.result c.as_slice.result.now
    c.release-said.result c.is_err.result c.loop-line-test.true c.line-item.is c.as_slice.ensures
    c.loop-line.invariant c.release-said.ensures c.is_err.ensures.value c.if-is_err.true

pub loop-line-preserved : goal.loop-line-preserved
loop-line-preserved g c =
    one_more_held g.O.Outlet.takes c.args.outlet.now c.loop-line.outlet c.release-said.new.self
    c.args.lines.now c.loop-line.line-index c.line-item.result c.as_slice.result.now
    c.release-said.result c.is_err.result c.loop-line-test.true c.line-item.is c.as_slice.ensures
    c.loop-line.invariant c.release-said.ensures c.is_err.ensures.value c.if-is_err.false
