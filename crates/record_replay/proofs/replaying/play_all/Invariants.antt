use Rattle.std.proofs.Common.{◌≡◌, take}
use Rattle.record_replay.specs.rules.Replays.{Replays}
use Rattle.record_replay.proofs.replaying.play_all.Given as goal

abbrev pub invariant-loop-entry : goal.invariant-loop-entry
invariant-loop-entry g l = record {
  played : Replays g.O.Outlet.takes l.fn.process (take l.entry-index l.records) l.process
      l.fn.outlet l.outlet;
  guest : l.process.machine.guest ≡ l.fn.process.machine.guest;
}
