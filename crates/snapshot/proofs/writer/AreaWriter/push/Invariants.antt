use Rattle.std.proofs.Common.{◌≡◌, ◌≤◌, ◌+◌, ◌-◌, length, take}
use Rattle.std.specs.Prelude.{Ok}
use Rattle.snapshot.specs.declared.fault.SnapshotFault.{SnapshotFault}
use Rattle.snapshot.specs.Writing.{written_length}
use Rattle.snapshot.specs.rules.Images.{PushesNext}
use Rattle.snapshot.proofs.writer.AreaWriter.push.Given as goal

abbrev pub invariant-loop-at : goal.invariant-loop-at
invariant-loop-at g l =
    let old = g.D.Disk.medium l.fn.disk in
    let now = g.D.Disk.medium l.disk in
    record {
      within : l.at ≤ length l.bytes;
      length : written_length l.self ≡ written_length l.fn.self + l.at;
      sectors : now.sectors ≡ old.sectors;
      pushes : PushesNext {T = Unit {0}} {E = SnapshotFault} l.geometry (take l.at l.bytes)
          (Ok tt) l.fn.self l.self old now;
    }

abbrev pub decreases-loop-at : goal.decreases-loop-at
decreases-loop-at g l = length l.bytes - l.at
