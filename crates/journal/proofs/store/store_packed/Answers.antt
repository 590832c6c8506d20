use Rattle.std.proofs.Common.{◌≡◌, ◌<◌, ◌+◌, ◌*◌, ◌++◌, ℕ, List, [], ◌∷◌, length, sym, ap, ◌∙◌}
use Rattle.std.proofs.Common.{subst, arith, rules}
use Rattle.std.proofs.lemmas.Grind.{common_steps}
use Rattle.std.proofs.lemmas.Result.{on_ok_weaker}
use Rattle.sector_disk.specs.rules.DiskImage.{sector_at}
use Rattle.sector_disk.specs.rules.Medium.{Tears, TakesWrite, BothFollow}
use Rattle.sector_disk.specs.rules.Calls.{rising_writes}
use Rattle.sector_disk.specs.declared.disk_call.DiskCall.TheVariants.{Sync}
use Rattle.sector_disk.specs.rules.Run.{IsTornRun, IsWrittenRun}
use Rattle.sector_disk.proofs.Moments.{shows_follow, synced_follows, goes_on, stays_crashed}
use Rattle.sector_disk.proofs.RunLemmas.{both_tear, both_take, run_passes, run_leaves_only}
use Rattle.sector_disk.proofs.RunLemmas.{crashed_longer}
use Rattle.sector_disk.proofs.CountLemmas.{counts_then}
use Rattle.sector_disk.proofs.CallLemmas.{begun_first, performed_then, rising_begun, rising_more}
use Rattle.disk_layout.specs.rules.Journal.{journal_sector}
use Rattle.journal.specs.rules.Packed.{packed, sectors_for}
use Rattle.journal.proofs.PackedLemmas.{packed_at, part_lent}
use Rattle.journal.proofs.store.store_packed.Goals as goal

pub returns-in_err-write : goal.returns-in_err-write
returns-in_err-write g c =
    let i = c.loop-i.invariant in
    let n = c.loop-i.i in
    let old = g.D.Disk.medium c.args.disk.now in
    let mid = g.D.Disk.medium c.loop-i.disk in
    let new = g.D.Disk.medium c.write.new.self in
    let count = sectors_for (length c.args.bytes.now) in
    let batch = packed c.args.generation c.args.place count c.args.bytes.now in
    let u = i.unsynced in
    let p = i.passes in
    let below : n < count = let e = c.sectors_for-count.ensures in let t = c.loop-i-test.true in
    omega arith in
    let sector : c.journal_sector-sector.result ≡ sector_at batch n =
    c.journal_sector-sector.ensures
    ∙ ap (λ (l : List ℕ). journal_sector c.args.generation (c.args.place + n) l)
    (part_lent c.args.bytes.now (494 * n) c.min-end.result c.min-end.ensures)
    ∙ sym (packed_at c.args.generation c.args.place count c.args.bytes.now n below) in
    let tears = subst (λ (s : List ℕ). Tears (c.args.at + n) s mid new) sector c.write.ensures.tears
    in
    let inside : c.args.at + n < mid.sectors = let s = p.sectors in let r = c.requires.room in
    omega arith in
    let both = both_tear c.args.at batch n old mid new inside i.tears tears in
    let some = rising_begun c.args.at n old mid new i.calls count below c.write.ensures.calls.begun
    in
    record {
      any_moment = run_leaves_only c.args.at batch count old new (run_passes c.args.at batch (n
          + 1) count old mid new (omega arith) p both c.write.ensures.passes);
      stored = first_of (search rules, grind (arith, common_steps));
      all_synced = first_of (search rules, grind (arith, common_steps));
      unsynced = first_of (search rules, grind (arith, common_steps));
      together = first_of (search rules, grind (arith, common_steps));
      counts = counts_then (old.unsynced + n) (mid.unsynced + 1) (old.unsynced + count) old mid new
          (omega arith) (omega arith) p.later i.counts c.write.ensures.counts;
      calls = record {
        all = search rules;
        begun = begun_first (rising_writes c.args.at count) (Sync ∷ []) old new some;
      };
      cause = first_of (search rules, grind (arith, common_steps));
      asks = first_of (search rules, grind (arith, common_steps));
    }

pub loop-i-preserved : goal.loop-i-preserved
loop-i-preserved g c =
    let i = c.loop-i.invariant in
    let n = c.loop-i.i in
    let old = g.D.Disk.medium c.args.disk.now in
    let mid = g.D.Disk.medium c.loop-i.disk in
    let new = g.D.Disk.medium c.write.new.self in
    let count = sectors_for (length c.args.bytes.now) in
    let batch = packed c.args.generation c.args.place count c.args.bytes.now in
    let below : n < count = let e = c.sectors_for-count.ensures in let t = c.loop-i-test.true in
    omega arith in
    let sector : c.journal_sector-sector.result ≡ sector_at batch n =
    c.journal_sector-sector.ensures
    ∙ ap (λ (l : List ℕ). journal_sector c.args.generation (c.args.place + n) l)
    (part_lent c.args.bytes.now (494 * n) c.min-end.result c.min-end.ensures)
    ∙ sym (packed_at c.args.generation c.args.place count c.args.bytes.now n below) in
    let tears = subst (λ (s : List ℕ). Tears (c.args.at + n) s mid new) sector c.write.ensures.tears
    in
    let inside : c.args.at + n < mid.sectors = let s = i.passes.sectors in let r = c.requires.room
    in omega arith in
    let both = both_tear c.args.at batch n old mid new inside i.tears tears in
    let takes = subst (λ (s : List ℕ). TakesWrite (c.args.at + n) s mid new) sector
    c.in_ok-write.ensures.whole in
    record {
      whole = both_take c.args.at batch n old mid new inside i.whole takes;
      tears = both;
      unsynced = let u = takes.unsynced in omega (arith, i.unsynced, u);
      counts = let u = i.unsynced in let p = i.passes in let later = p.later in
          counts_then (old.unsynced + n) (mid.unsynced + 1) (old.unsynced + (n + 1)) old mid new
          (omega arith) (omega arith) later i.counts c.write.ensures.counts;
      counted = omega (arith, i.counted, c.write.ensures.counted);
      calls = rising_more c.args.at n old mid new i.calls c.in_ok-write.ensures.calls.all;
      passes = run_passes c.args.at batch (n + 1) count old mid new
          (omega arith) i.passes both c.write.ensures.passes;
    }

pub returns : goal.returns
returns g c =
    let i = c.loop-i.invariant in
    let n = c.loop-i.i in
    let old = g.D.Disk.medium c.args.disk.now in
    let mid = g.D.Disk.medium c.loop-i.disk in
    let new = g.D.Disk.medium c.sync.new.self in
    let count = sectors_for (length c.args.bytes.now) in
    let batch = packed c.args.generation c.args.place count c.args.bytes.now in
    let u = i.unsynced in
    let p = i.passes in
    let all : n ≡ count = let e = c.sectors_for-count.ensures in let t = c.loop-i.auto.i-end in
    let f = c.loop-i-test.false in omega arith in
    let whole = subst (λ (k : ℕ). BothFollow (IsWrittenRun c.args.at batch k)
    (IsTornRun c.args.at batch k) old mid) all i.whole in
    let filled : mid.unsynced ≡ old.unsynced + count = omega (arith, all, u) in
    let sync = c.sync.ensures in
    record {
      any_moment = run_leaves_only c.args.at batch count old new
          (goes_on old mid new _ _ p sync.passes (λ image crashed.
          crashed_longer c.args.at batch n count old mid (omega (arith, all)) i.tears image
          (stays_crashed mid new sync.stays image crashed)));
      stored = on_ok_weaker c.sync.result (λ all_synced.
          synced_follows old mid new _ all_synced sync.stays (shows_follow old mid _ _ whole))
          sync.all_synced;
      all_synced = first_of (search rules, grind (arith, common_steps));
      unsynced = first_of (search rules, grind (arith, common_steps));
      together = on_ok_weaker c.sync.result
          (λ all_synced. subst (λ (k : ℕ). new.unsynced_since old.moment k) filled
          (sync.counts.keeps old.moment mid.unsynced p.later (mid.count_now old.moment p.later)))
          sync.all_synced;
      counts = counts_then (old.unsynced + n) mid.unsynced (old.unsynced + count) old mid new
          (omega (arith, all)) (omega (arith, filled)) p.later i.counts sync.counts;
      calls = performed_then (rising_writes c.args.at count) (Sync ∷ []) c.sync.result old mid new
          (i.calls ∙ ap (λ k. rising_writes c.args.at k ++ old.calls) all) sync.calls;
      cause = first_of (search rules, grind (arith, common_steps));
      asks = first_of (search rules, grind (arith, common_steps));
    }
