use Rattle.std.proofs.Common.{◌≡◌, ◌<◌, ◌+◌, ◌++◌, ℕ, List, length, sym, ap, ◌∙◌}
use Rattle.std.proofs.Common.{subst, arith, rules}
use Rattle.sector_disk.specs.rules.DiskImage.{sector_at}
use Rattle.sector_disk.specs.rules.Medium.{Tears, TakesWrite, BothFollow}
use Rattle.sector_disk.specs.rules.Calls.{rising_writes}
use Rattle.sector_disk.specs.rules.Run.{IsTornRun, IsWrittenRun}
use Rattle.sector_disk.proofs.RunLemmas.{both_tear, both_take, both_longer, run_passes}
use Rattle.sector_disk.proofs.RunLemmas.{run_leaves_only}
use Rattle.sector_disk.proofs.CountLemmas.{counts_then, counts_more}
use Rattle.sector_disk.proofs.CallLemmas.{rising_begun, rising_more}
use Rattle.disk_layout.specs.rules.Places.{rounded_up}
use Rattle.disk_layout.specs.rules.Contents.{contents_sectors}
use Rattle.disk_layout.proofs.ContentsLemmas.{counted, contents_at}
use Rattle.disk_layout.proofs.contents.write_contents.Goals as goal

pub returns-in_err-write : goal.returns-in_err-write
returns-in_err-write g c =
    let i = c.loop-i.invariant in
    let n = c.loop-i.i in
    let old = g.D.Disk.medium c.args.disk.now in
    let mid = g.D.Disk.medium c.loop-i.disk in
    let new = g.D.Disk.medium c.write.new.self in
    let sectors = contents_sectors (c.args.config.now ++ c.args.wasm.now) in
    let count = rounded_up (length c.args.config.now + length c.args.wasm.now) in
    let many = counted c.args.config.now c.args.wasm.now c.sectors_of-count.result
    c.sectors_of-count.ensures in
    let below : n < length sectors = let t = c.loop-i-test.true in omega arith in
    let within : n < count = let e = c.sectors_of-count.ensures in let t = c.loop-i-test.true in
    omega arith in
    let sector : c.sector_of-sector.result ≡ sector_at sectors n = c.sector_of-sector.ensures
    ∙ sym (contents_at c.args.config.now c.args.wasm.now n below) in
    let tears = subst (λ (s : List ℕ). Tears (3 + n) s mid new) sector c.write.ensures.tears in
    let inside : 3 + n < mid.sectors = let s = i.passes.sectors in let r = c.requires.room in
    let e = c.sectors_of-count.ensures in omega arith in
    let both = both_tear 3 sectors n old mid new inside i.tears tears in
    let u = i.unsynced in
    let p = i.passes in
    record {
      any_moment = run_leaves_only 3 sectors (length sectors) old new
          (run_passes 3 sectors (n + 1) (length sectors) old mid new
          (omega arith) i.passes both c.write.ensures.passes);
      stored = search rules;
      torn = both_longer 3 sectors (n + 1) (length sectors) old new (omega arith) both;
      unsynced = search rules;
      counts =
          counts_then (old.unsynced + n) (mid.unsynced + 1) (old.unsynced + count) old mid new
          (omega arith) (omega arith) p.later i.counts c.write.ensures.counts;
      calls = record {
        all = search rules;
        begun = rising_begun 3 n old mid new i.calls count within c.write.ensures.calls.begun;
      };
      cause = search rules;
      kind = search rules;
      asks = omega (arith, i.counted, c.write.ensures.counted);
    }

pub loop-i-preserved : goal.loop-i-preserved
loop-i-preserved g c =
    let i = c.loop-i.invariant in
    let n = c.loop-i.i in
    let old = g.D.Disk.medium c.args.disk.now in
    let mid = g.D.Disk.medium c.loop-i.disk in
    let new = g.D.Disk.medium c.write.new.self in
    let sectors = contents_sectors (c.args.config.now ++ c.args.wasm.now) in
    let many = counted c.args.config.now c.args.wasm.now c.sectors_of-count.result
    c.sectors_of-count.ensures in
    let below : n < length sectors = let t = c.loop-i-test.true in omega arith in
    let sector : c.sector_of-sector.result ≡ sector_at sectors n = c.sector_of-sector.ensures
    ∙ sym (contents_at c.args.config.now c.args.wasm.now n below) in
    let tears = subst (λ (s : List ℕ). Tears (3 + n) s mid new) sector c.write.ensures.tears in
    let inside : 3 + n < mid.sectors = let s = i.passes.sectors in let r = c.requires.room in
    let e = c.sectors_of-count.ensures in omega arith in
    let both = both_tear 3 sectors n old mid new inside i.tears tears in
    let takes = subst (λ (s : List ℕ).
    TakesWrite (3 + n) s mid new) sector c.in_ok-write.ensures.whole in
    record {
      whole = both_take 3 sectors n old mid new inside i.whole takes;
      tears = both;
      unsynced = let u = takes.unsynced in omega (arith, i.unsynced, u);
      counts = let u = i.unsynced in let p = i.passes in
          counts_then (old.unsynced + n) (mid.unsynced + 1) (old.unsynced + (n + 1)) old mid new
          (omega arith) (omega arith) p.later i.counts c.write.ensures.counts;
      counted = omega (arith, i.counted, c.write.ensures.counted);
      calls = rising_more 3 n old mid new i.calls c.in_ok-write.ensures.calls.all;
      passes = run_passes 3 sectors (n + 1) (length sectors) old mid new
          (omega arith) i.passes both c.write.ensures.passes;
    }

pub returns : goal.returns
returns g c =
    let i = c.loop-i.invariant in
    let n = c.loop-i.i in
    let old = g.D.Disk.medium c.args.disk.now in
    let new = g.D.Disk.medium c.loop-i.disk in
    let sectors = contents_sectors (c.args.config.now ++ c.args.wasm.now) in
    let count = rounded_up (length c.args.config.now + length c.args.wasm.now) in
    let many = counted c.args.config.now c.args.wasm.now c.sectors_of-count.result
    c.sectors_of-count.ensures in
    let e = c.sectors_of-count.ensures in
    let t = c.loop-i.auto.i-end in
    let f = c.loop-i-test.false in
    let all : n ≡ length sectors = omega arith in
    let whole : n ≡ count = omega arith in
    let made = i.calls ∙ ap (λ k. rising_writes 3 k ++ old.calls) whole in
    record {
      any_moment = run_leaves_only 3 sectors (length sectors) old new i.passes;
      stored = subst (λ (k : ℕ). BothFollow (IsWrittenRun 3 sectors k) (IsTornRun 3 sectors k) old
          new) all i.whole;
      torn = subst (λ (k : ℕ). BothFollow (IsTornRun 3 sectors k) (IsTornRun 3 sectors k) old new)
          all i.tears;
      unsynced = omega (arith, i.unsynced);
      counts = counts_more (old.unsynced + n) (old.unsynced + count) old new (omega arith) i.counts;
      calls = record { all = made; begun = (0, made) };
      cause = search rules;
      kind = search rules;
      asks = omega (arith, i.counted);
    }
