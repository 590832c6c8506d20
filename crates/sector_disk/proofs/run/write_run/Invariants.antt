use Rattle.std.proofs.Common.{◌≡◌, ◌≤◌, ◌+◌, ◌++◌, length}
use Rattle.sector_disk.specs.rules.Medium.{After, BothFollow, CountsUpTo, Passes}
use Rattle.sector_disk.specs.rules.Calls.{rising_writes}
use Rattle.sector_disk.specs.rules.Run.{IsTornRun, IsWrittenRun}
use Rattle.sector_disk.proofs.run.write_run.Given as goal

abbrev pub invariant-loop-sector : goal.invariant-loop-sector
invariant-loop-sector g l =
    let old = g.D.Disk.medium l.fn.disk in
    let now = g.D.Disk.medium l.disk in
    record {
      place : l.next ≡ l.at + l.sector-index;
      whole : BothFollow (IsWrittenRun l.at l.sectors l.sector-index)
          (IsTornRun l.at l.sectors l.sector-index) old now;
      tears : BothFollow (IsTornRun l.at l.sectors l.sector-index)
          (IsTornRun l.at l.sectors l.sector-index) old now;
      unsynced : now.unsynced ≤ old.unsynced + l.sector-index;
      counts : CountsUpTo (old.unsynced + l.sector-index) old now;
      counted : now.counted ≤ old.counted + l.sector-index;
      calls : now.calls ≡ rising_writes l.at l.sector-index ++ old.calls;
      passes : Passes old now (After (IsTornRun l.at l.sectors (length l.sectors))
          old.crash_images);
    }
