use Rattle.std.proofs.Common.{◌≡◌, ◌≤◌, ◌+◌, ◌++◌, length}
use Rattle.sector_disk.specs.rules.Medium.{After, BothFollow, CountsUpTo, Passes}
use Rattle.sector_disk.specs.rules.Calls.{rising_writes}
use Rattle.sector_disk.specs.rules.Run.{IsTornRun, IsWrittenRun}
use Rattle.disk_layout.specs.rules.Contents.{contents_sectors}
use Rattle.disk_layout.proofs.contents.write_contents.Given as goal

abbrev pub invariant-loop-i : goal.invariant-loop-i
invariant-loop-i g l =
    let old = g.D.Disk.medium l.fn.disk in
    let now = g.D.Disk.medium l.disk in
    let sectors = contents_sectors (l.config ++ l.wasm) in
    record {
      whole : BothFollow (IsWrittenRun 3 sectors l.i) (IsTornRun 3 sectors l.i) old now;
      tears : BothFollow (IsTornRun 3 sectors l.i) (IsTornRun 3 sectors l.i) old now;
      unsynced : now.unsynced ≡ old.unsynced + l.i;
      counts : CountsUpTo (old.unsynced + l.i) old now;
      counted : now.counted ≤ old.counted + l.i;
      calls : now.calls ≡ rising_writes 3 l.i ++ old.calls;
      passes : Passes old now (After (IsTornRun 3 sectors (length sectors)) old.crash_images);
    }
