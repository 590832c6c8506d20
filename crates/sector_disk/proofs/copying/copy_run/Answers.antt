use Rattle.std.proofs.Common.{◌≡◌, ◌<◌, ◌≤◌, ◌+◌, [], ◌++◌, ℕ, drop, refl, subst, arith}
use Rattle.std.proofs.Common.{◌⊎◌, rules, inl, inr, ⊎_elim}
use Rattle.sector_disk.specs.rules.Medium.{Medium, After, BothFollow, spare}
use Rattle.sector_disk.specs.rules.Run.{IsTornRun, IsWrittenRun}
use Rattle.sector_disk.specs.rules.Calls.{rising_writes}
use Rattle.sector_disk.specs.rules.DiskImage.{DiskImage}
use Rattle.sector_disk.proofs.Moments.{started, goes_on, stays_shows}
use Rattle.sector_disk.proofs.CallLemmas.{rising_begun, rising_longer, rising_more}
use Rattle.sector_disk.proofs.CountLemmas.{counts_same, counts_then, counts_more}
use Rattle.sector_disk.proofs.CopyLemmas.{none_read, one_read, more_read, own_fault}
use Rattle.sector_disk.proofs.CopyLemmas.{torn_next, written_next}
use Rattle.sector_disk.proofs.RunLemmas.{both_none, both_written_none, both_longer}
use Rattle.sector_disk.proofs.RunLemmas.{run_passes, run_leaves_only}
use Rattle.sector_disk.proofs.copying.copy_run.Goals as goal

-- why a write to the copy failed
abbrev SpentOrFails : ℕ → Medium → Medium → Type 0
SpentOrFails count old new = (spare old < count) ⊎ (old.faults < new.faults)

pub loop-k-init : goal.loop-k-init
loop-k-init g c =
    let copy = g.C.Disk.medium c.args.copy.now in
    record {
      only_read = none_read (g.O.Disk.medium c.args.original.now);
      whole = λ shown shows. both_written_none c.args.at (drop c.args.at shown) copy;
      tears = λ shown shows. both_none c.args.at (drop c.args.at shown) copy;
      any_moment = λ shown shows. started copy (After (IsTornRun c.args.at (drop c.args.at shown)
          c.args.count) copy.crash_images);
      passes = started copy (λ _. Unit {0});
      unsynced = omega arith;
      counts = counts_same copy _;
      counted = omega arith;
      calls = refl;
    }

pub returns-in-Err : goal.returns-in-Err
returns-in-Err g c =
    let i = c.loop-k.invariant in
    let from = g.O.Disk.medium c.args.original.now in
    let mid_from = g.O.Disk.medium c.loop-k.original in
    let new_from = g.O.Disk.medium c.read.new.self in
    let old = g.C.Disk.medium c.args.copy.now in
    let now = g.C.Disk.medium c.loop-k.copy in
    let read = c.read.ensures in
    let before = i.only_read.leaves.passes in
    let fails = c.in-Err.ensures in
    let inside : mid_from.sectors ≤ c.args.at + c.loop-k.k → ⊥ =
    λ out. let s = before.sectors in omega arith in
    let own = own_fault c.in-Err.fault _ _ mid_from new_from fails.cause inside in
    record {
      only_read = more_read (c.loop-k.k + 1) c.args.count from new_from (omega arith)
          (one_read c.loop-k.k _ _ c.read.result from mid_from new_from i.only_read read);
      whole = search rules;
      tears = λ shown shows. both_longer c.args.at (drop c.args.at shown) c.loop-k.k c.args.count
          old now (omega arith) (i.tears shown (stays_shows mid_from new_from read.stays shown
          shows));
      any_moment = λ shown shows. run_leaves_only c.args.at (drop c.args.at shown) c.args.count old
          now (i.any_moment shown (stays_shows mid_from new_from read.stays shown shows));
      passes = i.passes;
      unsynced = let u = i.unsynced in omega arith;
      counts = counts_more (old.unsynced + c.loop-k.k) (old.unsynced + c.args.count) old now
          (omega arith) i.counts;
      calls = record {
        all = search rules;
        begun = rising_longer c.args.at c.loop-k.k c.args.count old now (omega arith)
            (0, i.calls);
      };
      counted = let u = i.counted in omega arith;
      cause = (
        own,
        ⊎_elim (λ other. ⊎_elim (λ out. absurd (inside out)) (λ full. absurd full)
            other) (λ more. let f = before.faults in omega arith) (fails.cause.fault refl),
      );
    }

pub returns-in-Err-write : goal.returns-in-Err-write
returns-in-Err-write g c =
    let i = c.loop-k.invariant in
    let k = c.loop-k.k in
    let from = g.O.Disk.medium c.args.original.now in
    let mid_from = g.O.Disk.medium c.loop-k.original in
    let new_from = g.O.Disk.medium c.read.new.self in
    let old = g.C.Disk.medium c.args.copy.now in
    let mid = g.C.Disk.medium c.loop-k.copy in
    let new = g.C.Disk.medium c.write.new.self in
    let read = c.read.ensures in
    let write = c.write.ensures in
    let fails = c.in-Err-write.ensures in
    let before = i.passes in
    let tears = write.tears in
    let holds = c.in_default.ensures in
    let inside : mid.sectors ≤ c.args.at + k → ⊥ =
    λ out. let s = before.sectors in omega arith in
    let within : c.args.at + k < mid.sectors = let s = before.sectors in omega arith in
    let was : (shown : DiskImage) → new_from.shows shown → mid_from.shows shown =
    λ shown shows. stays_shows mid_from new_from read.stays shown shows in
    let torn : (shown : DiskImage) → new_from.shows shown → BothFollow
    (IsTornRun c.args.at (drop c.args.at shown) (k + 1))
    (IsTornRun c.args.at (drop c.args.at shown) (k + 1)) old new =
    λ shown shows. torn_next c.args.at k (c.args.at + k) c.read.new.into refl new_from old mid new
    holds.bytes within shown shows (i.tears shown (was shown shows)) tears in
    let own = own_fault c.in-Err-write.fault _ _ mid new fails.cause inside in
    record {
      only_read = more_read (k + 1) c.args.count from new_from (omega arith)
          (one_read k _ _ c.read.result from mid_from new_from i.only_read read);
      whole = search rules;
      tears = λ shown shows. both_longer c.args.at (drop c.args.at shown) (k + 1) c.args.count
          old new (omega arith) (torn shown shows);
      any_moment = λ shown shows. run_leaves_only c.args.at (drop c.args.at shown) c.args.count old
          new (run_passes c.args.at (drop c.args.at shown) (k + 1) c.args.count old mid new
          (omega arith) (i.any_moment shown (was shown shows)) (torn shown shows) write.passes);
      passes = goes_on old mid new (λ _. Unit {0}) new.crash_images i.passes write.passes
          (λ image crashed. tt);
      unsynced = let u = i.unsynced in let t = tears.unsynced in omega arith;
      counts = let u = i.unsynced in counts_then (old.unsynced + k) (mid.unsynced + 1)
          (old.unsynced + c.args.count) old mid new (omega arith) (omega arith) before.later
          i.counts write.counts;
      calls = record {
        all = search rules;
        begun = rising_begun c.args.at k old mid new i.calls c.args.count (omega arith)
            write.calls.begun;
      };
      counted = let u = i.counted in let w = write.counted in omega arith;
      cause = (
        own,
        ⊎_elim (λ other. ⊎_elim (λ out. absurd (inside out)) (λ full.
            (let spent : SpentOrFails c.args.count old new = inl (let r = before.room in
            let u = i.unsynced in omega arith) in spent)) other)
            (λ more. inr (let f = before.faults in omega arith)) (fails.cause.fault refl),
      );
    }

pub loop-k-preserved : goal.loop-k-preserved
loop-k-preserved g c =
    let i = c.loop-k.invariant in
    let k = c.loop-k.k in
    let from = g.O.Disk.medium c.args.original.now in
    let mid_from = g.O.Disk.medium c.loop-k.original in
    let new_from = g.O.Disk.medium c.read.new.self in
    let old = g.C.Disk.medium c.args.copy.now in
    let mid = g.C.Disk.medium c.loop-k.copy in
    let new = g.C.Disk.medium c.write.new.self in
    let read = c.read.ensures in
    let write = c.write.ensures in
    let wrote = c.in_default-write.ensures in
    let before = i.passes in
    let tears = write.tears in
    let holds = c.in_default.ensures in
    let within : c.args.at + k < mid.sectors = let s = before.sectors in omega arith in
    let was : (shown : DiskImage) → new_from.shows shown → mid_from.shows shown =
    λ shown shows. stays_shows mid_from new_from read.stays shown shows in
    let torn : (shown : DiskImage) → new_from.shows shown → BothFollow
    (IsTornRun c.args.at (drop c.args.at shown) (k + 1))
    (IsTornRun c.args.at (drop c.args.at shown) (k + 1)) old new =
    λ shown shows. torn_next c.args.at k (c.args.at + k) c.read.new.into refl new_from old mid new
    holds.bytes within shown shows (i.tears shown (was shown shows)) tears in
    record {
      only_read = one_read k _ _ c.read.result from mid_from new_from i.only_read read;
      whole = λ shown shows. written_next c.args.at k (c.args.at + k) c.read.new.into refl new_from
          old mid new holds.bytes within shown shows (i.whole shown (was shown shows)) wrote.whole;
      tears = torn;
      any_moment = λ shown shows. run_passes c.args.at (drop c.args.at shown) (k + 1) c.args.count
          old mid new (omega arith) (i.any_moment shown (was shown shows)) (torn shown shows)
          write.passes;
      passes = goes_on old mid new (λ _. Unit {0}) new.crash_images i.passes write.passes
          (λ image crashed. tt);
      unsynced = let u = i.unsynced in let t = tears.unsynced in omega arith;
      counts = let u = i.unsynced in counts_then (old.unsynced + k) (mid.unsynced + 1)
          (old.unsynced + (k + 1)) old mid new (omega arith) (omega arith) before.later
          i.counts write.counts;
      counted = let u = i.counted in let w = write.counted in omega arith;
      calls = rising_more c.args.at k old mid new i.calls wrote.calls.all;
    }

pub returns : goal.returns
returns g c =
    let i = c.loop-k.invariant in
    let old = g.C.Disk.medium c.args.copy.now in
    let now = g.C.Disk.medium c.loop-k.copy in
    let same : c.loop-k.k ≡ c.args.count = omega arith in
    record {
      only_read = more_read c.loop-k.k c.args.count (g.O.Disk.medium c.args.original.now)
          (g.O.Disk.medium c.loop-k.original) (omega arith) i.only_read;
      whole = λ shown shows. subst (λ (n : ℕ). BothFollow
          (IsWrittenRun c.args.at (drop c.args.at shown) n)
          (IsTornRun c.args.at (drop c.args.at shown) n) old now) same (i.whole shown shows);
      tears = λ shown shows. both_longer c.args.at (drop c.args.at shown) c.loop-k.k c.args.count
          old now (omega arith) (i.tears shown shows);
      any_moment = λ shown shows. run_leaves_only c.args.at (drop c.args.at shown) c.args.count old
          now (i.any_moment shown shows);
      passes = i.passes;
      unsynced = let u = i.unsynced in omega arith;
      counts = counts_more (old.unsynced + c.loop-k.k) (old.unsynced + c.args.count) old now
          (omega arith) i.counts;
      calls = record {
        all = subst (λ (n : ℕ). now.calls ≡ rising_writes c.args.at n ++ old.calls) same i.calls;
        begun = rising_longer c.args.at c.loop-k.k c.args.count old now (omega arith)
            (0, i.calls);
      };
      counted = let u = i.counted in omega arith;
      cause = search rules;
    }
