use Rattle.std.proofs.Common.{◌≡◌, ◌≤◌, ◌+◌, ◌++◌, drop}
use Rattle.sector_disk.specs.rules.DiskImage.{DiskImage}
use Rattle.sector_disk.specs.rules.Medium.{After, BothFollow, CountsUpTo, Passes}
use Rattle.sector_disk.specs.rules.Calls.{rising_writes}
use Rattle.sector_disk.specs.rules.Copying.{WasOnlyRead}
use Rattle.sector_disk.specs.rules.Run.{IsTornRun, IsWrittenRun}
use Rattle.sector_disk.proofs.copying.copy_run.Given as goal

abbrev pub invariant-loop-k : goal.invariant-loop-k
invariant-loop-k g l =
    let original = g.O.Disk.medium l.original in
    let old = g.C.Disk.medium l.fn.copy in
    let now = g.C.Disk.medium l.copy in
    record {
      only_read : WasOnlyRead l.k (g.O.Disk.medium l.fn.original) original;
      whole : (shown : DiskImage) → original.shows shown
          → BothFollow (IsWrittenRun l.at (drop l.at shown) l.k)
          (IsTornRun l.at (drop l.at shown) l.k) old now;
      tears : (shown : DiskImage) → original.shows shown
          → BothFollow (IsTornRun l.at (drop l.at shown) l.k)
          (IsTornRun l.at (drop l.at shown) l.k) old now;
      any_moment : (shown : DiskImage) → original.shows shown → Passes old now
          (After (IsTornRun l.at (drop l.at shown) l.count) old.crash_images);
      passes : Passes old now (λ _. Unit {0});
      unsynced : now.unsynced ≤ old.unsynced + l.k;
      counts : CountsUpTo (old.unsynced + l.k) old now;
      counted : now.counted ≤ old.counted + l.k;
      calls : now.calls ≡ rising_writes l.at l.k ++ old.calls;
    }
