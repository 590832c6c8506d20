use Rattle.record_replay.proofs.WaitingLines.{one_more, refused}
use Rattle.record_replay.proofs.releasing.release_waiting.Goals as goal

pub returns-then-is_err-clause-some : goal.returns-then-is_err-clause-some
returns-then-is_err-clause-some g c =
    refused g.O.Outlet.takes c.args.process.now c.args.outlet.now c.loop-i.outlet
    c.release-said.new.self c.waiting-waiting.result.now c.loop-i.i c.lines.result c.stream.result
    c.text.result.now c.index-waiting-i.result c.release-said.result c.is_err.result
    c.waiting-waiting.ensures c.lines.ensures.value c.loop-i-test.true c.index-waiting-i.is
    c.stream.ensures c.text.ensures c.loop-i.invariant c.release-said.ensures
    c.is_err.ensures.value c.if-is_err.true

pub loop-i-preserved : goal.loop-i-preserved
loop-i-preserved g c =
    one_more g.O.Outlet.takes c.args.process.now c.args.outlet.now c.loop-i.outlet
    c.release-said.new.self c.waiting-waiting.result.now c.loop-i.i c.lines.result c.stream.result
    c.text.result.now c.index-waiting-i.result c.release-said.result c.is_err.result
    c.waiting-waiting.ensures c.lines.ensures.value c.loop-i-test.true c.index-waiting-i.is
    c.stream.ensures c.text.ensures c.loop-i.invariant c.release-said.ensures
    c.is_err.ensures.value c.if-is_err.false
