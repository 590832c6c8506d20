use Rattle.std.proofs.Common.{take}
use Rattle.record_replay.specs.rules.Calls.{Releases, all_taken}
use Rattle.process.specs.rules.Values.{waiting_in}
use Rattle.record_replay.specs.rules.Waiting.{first_waiting}
use Rattle.record_replay.proofs.releasing.release_waiting.Given as goal

abbrev pub invariant-loop-i : goal.invariant-loop-i
invariant-loop-i g l =
    Releases g.O.Outlet.takes l.fn.outlet
    (all_taken (first_waiting l.fn.process) (take l.i (waiting_in l.fn.process))) l.outlet
