use Rattle.std.proofs.Common.{◌≡◌, ◌+◌, [], ◌∷◌, ℕ, Err, Result, ap, sym, ◌∙◌, subst, arith, rules}
use Rattle.std.proofs.lemmas.Result.{err_from_is_err_and}
use Rattle.sector_disk.specs.rules.Medium.{BeginsCalls, FailsInside}
use Rattle.sector_disk.specs.declared.disk_call.DiskCall.TheVariants.{WriteOf}
use Rattle.sector_disk.specs.declared.fault.DiskFault.{DiskFault}
use Rattle.sector_disk.proofs.CallLemmas.{rising_begun}
use Rattle.sector_disk.proofs.CountLemmas.{counts_then}
use Rattle.sector_disk.proofs.RewriteLemmas.{adds_then, adds_on, adds_leaves}
use Rattle.sector_disk.proofs.rewriting.write_all_back.Goals as goal

pub returns-in_err-write_back : goal.returns-in_err-write_back
returns-in_err-write_back g c =
    let i = c.loop-sector.invariant in
    let n = c.loop-sector.sector in
    let old = g.D.Disk.medium c.args.disk.now in
    let mid = g.D.Disk.medium c.loop-sector.disk in
    let new = g.D.Disk.medium c.write_back.new.disk in
    let one = c.write_back.ensures in
    let s = i.passes.sectors in
    let u = i.unsynced in
    let end = c.sectors-sector-end.ensures in
    let leaves = one.any_moment in
    let p = err_from_is_err_and c.from_residual.result c.from_residual.ensures.1 in
    let same : c.from_residual.result ≡ Err c.in_err-write_back.field-0.0 =
    p.1 ∙ ap (λ (e : DiskFault). (let r : Result (Unit {0}) DiskFault = Err e in r)) p.2 in
    let P : Result (Unit {0}) DiskFault → Type 0 = λ r. FailsInside r in
    let here : n ≡ 0 + n = omega arith in
    record {
      adds_nothing = adds_then old mid new i.adds one.adds_nothing;
      any_moment = adds_leaves old new (adds_on old mid new i.adds i.passes leaves.passes);
      unsynced = omega (arith, one.unsynced);
      counts = let q = i.passes in
          counts_then (old.unsynced + n) (mid.unsynced + 1) (old.unsynced + old.sectors) old mid new
          (omega arith) (omega arith) q.later i.counts one.counts;
      performed = record {
        all = search rules;
        begun = rising_begun 0 n old mid new i.calls old.sectors (omega arith)
            (subst (λ (k : ℕ). BeginsCalls (WriteOf k ∷ []) mid new) here one.performed.begun);
      };
      counted = omega (arith, i.counted, one.counted);
      cause = search rules;
      which_fault = subst P (sym same) c.in_err-write_back.ensures.which_fault;
    }
