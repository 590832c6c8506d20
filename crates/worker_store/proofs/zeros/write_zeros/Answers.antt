use Rattle.std.proofs.Common.{◌≡◌, ◌<◌, ◌+◌, ℕ, List, Err, Result, sym, ap, ◌∙◌, subst, arith}
use Rattle.std.proofs.Common.{rules, replicate}
use Rattle.std.proofs.lemmas.Result.{err_from_is_err_and}
use Rattle.wasi_abi.specs.rules.Layouts.{padding}
use Rattle.sector_disk.specs.rules.Medium.{Tears, TakesWrite}
use Rattle.sector_disk.specs.declared.fault.DiskFault.{DiskFault}
use Rattle.sector_disk.proofs.RunLemmas.{both_tear, both_take, both_longer, run_passes}
use Rattle.sector_disk.proofs.RunLemmas.{fails_inside}
use Rattle.sector_disk.proofs.CountLemmas.{counts_then}
use Rattle.sector_disk.proofs.CallLemmas.{rising_begun, rising_more}
use Rattle.worker_store.proofs.ZeroLemmas.{zero_at, zeros_written, zeros_cut}
use Rattle.worker_store.proofs.zeros.write_zeros.Goals as goal

pub returns-in_err-write : goal.returns-in_err-write
returns-in_err-write g c =
    let i = c.loop-k.invariant in
    let n = c.loop-k.k in
    let old = g.D.Disk.medium c.args.disk.now in
    let mid = g.D.Disk.medium c.loop-k.disk in
    let new = g.D.Disk.medium c.write.new.self in
    let count = c.args.count in
    let sectors : List (List ℕ) = replicate count (padding 512) in
    let below : n < count = let t = c.loop-k-test.true in omega arith in
    let tears = subst (λ (b : List ℕ). Tears (c.args.at + n) b mid new)
    (sym (zero_at count n below))
    c.write.ensures.tears in
    let inside : c.args.at + n < mid.sectors = let s = i.passes.sectors in let r = c.requires in
    omega arith in
    let both = both_longer c.args.at sectors (n + 1) count old new (omega arith)
    (both_tear c.args.at sectors n old mid new inside i.tears tears) in
    let p = err_from_is_err_and c.from_residual.result c.from_residual.ensures.1 in
    let same : c.from_residual.result ≡ Err c.in_err-write.field-0.0 =
    p.1 ∙ ap (λ (e : DiskFault). (let r : Result (Unit {0}) DiskFault = Err e in r)) p.2 in
    let which_fault = fails_inside {T = Unit {0}} c.in_err-write.field-0.0 _ _ mid new
    c.in_err-write.ensures.cause (λ out. omega arith) in
    zeros_cut c.args.at count c.from_residual.result c.in_err-write.field-0.0 old new same both
    (let u = tears.unsynced in omega (arith, i.unsynced))
    (let u = i.unsynced in let p = i.passes in
    counts_then (old.unsynced + n) (mid.unsynced + 1) (old.unsynced + count) old mid new
    (omega arith) (omega arith) p.later i.counts c.write.ensures.counts)
    (rising_begun c.args.at n old mid new i.calls count below c.write.ensures.calls.begun)
    (run_passes c.args.at sectors count count old mid new (omega arith) i.passes both
    c.write.ensures.passes)
    (let u = i.unsynced in let p = i.passes in let w = c.in_err-write.ensures.cause in search rules)
    which_fault (omega (arith, below, i.counted, c.write.ensures.counted))

pub loop-k-preserved : goal.loop-k-preserved
loop-k-preserved g c =
    let i = c.loop-k.invariant in
    let n = c.loop-k.k in
    let old = g.D.Disk.medium c.args.disk.now in
    let mid = g.D.Disk.medium c.loop-k.disk in
    let new = g.D.Disk.medium c.write.new.self in
    let count = c.args.count in
    let sectors : List (List ℕ) = replicate count (padding 512) in
    let below : n < count = let t = c.loop-k-test.true in omega arith in
    let tears = subst (λ (b : List ℕ). Tears (c.args.at + n) b mid new)
    (sym (zero_at count n below))
    c.write.ensures.tears in
    let takes = subst (λ (b : List ℕ). TakesWrite (c.args.at + n) b mid new)
    (sym (zero_at count n below)) c.in_ok-write.ensures.whole in
    let inside : c.args.at + n < mid.sectors = let s = i.passes.sectors in let r = c.requires in
    omega arith in
    let both = both_tear c.args.at sectors n old mid new inside i.tears tears in
    record {
      whole = both_take c.args.at sectors n old mid new inside i.whole takes;
      tears = both;
      unsynced = let u = takes.unsynced in omega (arith, i.unsynced, u);
      counts = let u = i.unsynced in let p = i.passes in
          counts_then (old.unsynced + n) (mid.unsynced + 1) (old.unsynced + (n + 1)) old mid new
          (omega arith) (omega arith) p.later i.counts c.write.ensures.counts;
      counted = omega (arith, i.counted, c.write.ensures.counted);
      calls = rising_more c.args.at n old mid new i.calls c.in_ok-write.ensures.calls.all;
      passes = run_passes c.args.at sectors (n + 1) count old mid new (omega arith) i.passes both
          c.write.ensures.passes;
    }

pub returns : goal.returns
returns g c =
    let i = c.loop-k.invariant in
    let n = c.loop-k.k in
    let old = g.D.Disk.medium c.args.disk.now in
    let new = g.D.Disk.medium c.loop-k.disk in
    let all : n ≡ c.args.count = let t = c.loop-k.auto.k-end in let f = c.loop-k-test.false in
    omega arith in
    zeros_written c.args.at c.args.count n old new all i.whole i.tears i.unsynced i.counts i.calls
    i.passes i.counted
