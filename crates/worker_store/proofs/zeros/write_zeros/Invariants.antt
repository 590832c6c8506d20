use Rattle.std.proofs.Common.{◌≡◌, ◌≤◌, ◌+◌, ◌++◌, List, ℕ, replicate}
use Rattle.wasi_abi.specs.rules.Layouts.{padding}
use Rattle.sector_disk.specs.rules.Medium.{After, BothFollow, CountsUpTo, Passes}
use Rattle.sector_disk.specs.rules.Calls.{rising_writes}
use Rattle.sector_disk.specs.rules.Run.{IsTornRun, IsWrittenRun}
use Rattle.worker_store.proofs.zeros.write_zeros.Given as goal

abbrev pub invariant-loop-k : goal.invariant-loop-k
invariant-loop-k g l =
    let old = g.D.Disk.medium l.fn.disk in
    let now = g.D.Disk.medium l.disk in
    let sectors : List (List ℕ) = replicate l.count (padding 512) in
    record {
      whole : BothFollow (IsWrittenRun l.at sectors l.k) (IsTornRun l.at sectors l.k) old now;
      tears : BothFollow (IsTornRun l.at sectors l.k) (IsTornRun l.at sectors l.k) old now;
      unsynced : now.unsynced ≤ old.unsynced + l.k;
      counts : CountsUpTo (old.unsynced + l.k) old now;
      counted : now.counted ≤ old.counted + l.k;
      calls : now.calls ≡ rising_writes l.at l.k ++ old.calls;
      passes : Passes old now (After (IsTornRun l.at sectors l.count) old.crash_images);
    }
