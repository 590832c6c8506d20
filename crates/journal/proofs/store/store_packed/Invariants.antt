use Rattle.std.proofs.Common.{◌≡◌, ◌≤◌, ◌+◌, ◌++◌, length}
use Rattle.sector_disk.specs.rules.Medium.{After, BothFollow, CountsUpTo, Passes}
use Rattle.sector_disk.specs.rules.Calls.{rising_writes}
use Rattle.sector_disk.specs.rules.Run.{IsTornRun, IsWrittenRun}
use Rattle.journal.specs.rules.Packed.{packed, sectors_for}
use Rattle.journal.proofs.store.store_packed.Given as goal

abbrev pub invariant-loop-i : goal.invariant-loop-i
invariant-loop-i g l =
    let old = g.D.Disk.medium l.fn.disk in
    let now = g.D.Disk.medium l.disk in
    let n = sectors_for (length l.bytes) in
    let batch = packed l.generation l.place n l.bytes in
    record {
      whole : BothFollow (IsWrittenRun l.at batch l.i) (IsTornRun l.at batch l.i) old now;
      tears : BothFollow (IsTornRun l.at batch l.i) (IsTornRun l.at batch l.i) old now;
      unsynced : now.unsynced ≡ old.unsynced + l.i;
      counts : CountsUpTo (old.unsynced + l.i) old now;
      counted : now.counted ≤ old.counted + l.i;
      calls : now.calls ≡ rising_writes l.at l.i ++ old.calls;
      passes : Passes old now (After (IsTornRun l.at batch n) old.crash_images);
    }
