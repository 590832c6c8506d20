use Rattle.std.proofs.Common.{take}
use Rattle.record_replay.specs.rules.Calls.{Releases}
use Rattle.worker.specs.BatchTurns.{held_as_begun}
use Rattle.worker.proofs.batches.release_held.Given as goal

abbrev pub invariant-loop-line : goal.invariant-loop-line
invariant-loop-line g l =
    Releases g.O.Outlet.takes l.fn.outlet (held_as_begun (take l.line-index l.fn.lines)) l.outlet
