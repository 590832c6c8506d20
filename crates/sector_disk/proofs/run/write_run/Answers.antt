use Rattle.std.proofs.Common.{◌≡◌, ◌<◌, ◌≤◌, ◌+◌, ◌++◌, [], ◌∷◌, ℕ, length, Err, Result, sym, ap}
use Rattle.std.proofs.Common.{◌∙◌, subst, arith, rules}
use Rattle.std.proofs.lemmas.Result.{err_from_is_err_and}
use Rattle.sector_disk.specs.rules.DiskImage.{sector_at}
use Rattle.sector_disk.specs.rules.Medium.{Tears, TakesWrite, BeginsCalls, FailsInside}
use Rattle.sector_disk.specs.declared.disk_call.DiskCall.TheVariants.{WriteOf}
use Rattle.sector_disk.specs.declared.fault.DiskFault.{DiskFault}
use Rattle.sector_disk.proofs.RunLemmas.{both_tear, both_take, both_longer, run_passes}
use Rattle.sector_disk.proofs.RunLemmas.{run_leaves_only, fails_inside}
use Rattle.sector_disk.proofs.CountLemmas.{counts_then}
use Rattle.sector_disk.proofs.CallLemmas.{rising_begun, rising_more}
use Rattle.sector_disk.proofs.run.write_run.Goals as goal

pub returns-in_err-write : goal.returns-in_err-write
returns-in_err-write g c =
    let i = c.loop-sector.invariant in
    let n = c.loop-sector.sector-index in
    let old = g.D.Disk.medium c.args.disk.now in
    let mid = g.D.Disk.medium c.loop-sector.disk in
    let new = g.D.Disk.medium c.write.new.self in
    let more : n + 1 ≤ length c.args.sectors.now = omega arith in
    let tears = subst (λ (k : ℕ). Tears k (sector_at c.args.sectors.now n) mid new) i.place
    c.write.ensures.tears in
    let inside : c.args.at + n < mid.sectors = let s = i.passes.sectors in omega arith in
    let both = both_tear c.args.at c.args.sectors.now n old mid new inside i.tears tears in
    let p = err_from_is_err_and c.from_residual.result c.from_residual.ensures.1 in
    let same : c.from_residual.result ≡ Err c.in_err-write.field-0.0 =
    p.1 ∙ ap (λ (e : DiskFault). (let r : Result (Unit {0}) DiskFault = Err e in r)) p.2 in
    let which_fault = fails_inside {T = Unit {0}} c.in_err-write.field-0.0 _ _ mid new
    c.in_err-write.ensures.cause (λ out. let e = i.place in omega arith) in
    let P : Result (Unit {0}) DiskFault → Type 0 = λ r. FailsInside r in
    record {
      whole = search rules;
      tears = both_longer _ _ _ _ old new more both;
      unsynced = let u = tears.unsynced in omega (arith, i.unsynced);
      counts = let u = i.unsynced in let p = i.passes in
          counts_then (old.unsynced + n) (mid.unsynced + 1) (old.unsynced
          + length c.args.sectors.now) old mid new (omega arith)
          (omega arith) p.later i.counts c.write.ensures.counts;
      calls = record {
        all = search rules;
        begun = rising_begun c.args.at n old mid new i.calls (length c.args.sectors.now)
            (omega arith) (subst (λ (k : ℕ). BeginsCalls (WriteOf k
            ∷ []) mid new) i.place c.write.ensures.calls.begun);
      };
      counted = omega (arith, i.counted, c.write.ensures.counted);
      any_moment =
          run_leaves_only _ _ _ old new
          (run_passes _ _ _ _ old mid new more i.passes both c.write.ensures.passes);
      cause = search rules;
      which_fault = subst P (sym same) which_fault;
    }

pub loop-sector-preserved : goal.loop-sector-preserved
loop-sector-preserved g c =
    let i = c.loop-sector.invariant in
    let n = c.loop-sector.sector-index in
    let old = g.D.Disk.medium c.args.disk.now in
    let mid = g.D.Disk.medium c.loop-sector.disk in
    let new = g.D.Disk.medium c.write.new.self in
    let tears = subst (λ (k : ℕ). Tears k (sector_at c.args.sectors.now n) mid new) i.place
    c.write.ensures.tears in
    let takes = subst (λ (k : ℕ). TakesWrite k (sector_at c.args.sectors.now n) mid new) i.place
    c.in_ok-write.ensures.whole in
    let inside : c.args.at + n < mid.sectors = let s = i.passes.sectors in omega arith in
    let both = both_tear c.args.at c.args.sectors.now n old mid new inside i.tears tears in
    record {
      place = omega (arith, i.place);
      whole = both_take c.args.at c.args.sectors.now n old mid new inside i.whole takes;
      tears = both;
      unsynced = let u = tears.unsynced in omega (arith, i.unsynced);
      counts = let u = i.unsynced in let p = i.passes in
          counts_then (old.unsynced + n) (mid.unsynced + 1) (old.unsynced + (n + 1)) old mid new
          (omega arith) (omega arith) p.later i.counts c.write.ensures.counts;
      calls = rising_more c.args.at n old mid new i.calls (subst (λ (k : ℕ). new.calls
          ≡ (WriteOf k ∷ []) ++ mid.calls) i.place c.in_ok-write.ensures.calls.all);
      counted = omega (arith, i.counted, c.write.ensures.counted);
      passes = run_passes _ _ _ _ old mid new (omega arith) i.passes both c.write.ensures.passes;
    }
