use Rattle.std.proofs.Common.{◌≡◌, ◌≤◌, ◌+◌, ◌-◌, ◌++◌, ◌∙◌, ℕ, List, length, take, drop, refl}
use Rattle.std.proofs.Common.{ap, subst, inl, inr, arith, rules}
use Rattle.std.specs.Prelude.{Result, Ok, Err}
use Rattle.std.proofs.lemmas.Grind.{common_steps}
use Rattle.std.proofs.lemmas.List.{take_all, length-take-le}
use Rattle.disk_layout.proofs.ReadLemmas.{parts_joined}
use Rattle.snapshot.specs.declared.fault.SnapshotFault.{SnapshotFault}
use Rattle.snapshot.specs.declared.fault.SnapshotFault.TheVariants.{TooBig}
use Rattle.snapshot.specs.rules.Images.{PushesNext}
use Rattle.snapshot.proofs.PushLemmas.{pushes_none, pushes_then, pushes_longer, pushes_nothing}
use Rattle.snapshot.proofs.PushLemmas.{on_err, fails_then}
use Rattle.snapshot.proofs.ReadLemmas.{is_fault}
use Rattle.snapshot.proofs.writer.AreaWriter.push.Goals as goal

-- a front and the next piece
front_and_piece : (at end : ℕ) (bytes : List ℕ) → at ≤ end
    → take at bytes ++ take (end - at) (drop at bytes) ≡ take end bytes
front_and_piece at end bytes le =
    parts_joined at (end - at) bytes
    ∙ ap (λ n. take n bytes) (let e : at + (end - at) ≡ end = omega (arith, le) in e)

pub loop-at-init : goal.loop-at-init
loop-at-init g c = record {
  within = omega arith;
  length = omega arith;
  sectors = refl;
  pushes = pushes_none c.args.geometry.now c.args.self.now (g.D.Disk.medium c.args.disk.now);
}

pub loop-at-preserved : goal.loop-at-preserved
loop-at-preserved g c =
    let i = c.loop-at.invariant in
    let a = c.args.self.now in
    let v = c.take_in.new.self in
    let old = g.D.Disk.medium c.args.disk.now in
    let mid = g.D.Disk.medium c.loop-at.disk in
    let new = g.D.Disk.medium c.take_in.new.disk in
    let geometry = c.args.geometry.now in
    let bytes = c.args.bytes.now in
    let at = c.loop-at.at in
    let end = c.min-end.result in
    let is = c.min-end.ensures in
    let test = c.loop-at-test.true in
    let open_one = c.loop-at.self.open in
    let le : at ≤ end = omega (arith, is, test, open_one) in
    let most : end ≤ length bytes = omega (arith, is) in
    let said : Result (Unit {0}) SnapshotFault = Ok tt in
    let both = pushes_then geometry (take at bytes) (take (end - at) (drop at bytes)) said a
    c.loop-at.self v old mid new i.pushes c.in_ok-take_in.ensures.pushes in
    let all = subst (λ (l : List ℕ). PushesNext geometry l said a v old new)
    (front_and_piece at end bytes le) both in
    let stores = all.stores in
    let leaves = stores.any_moment in
    let p = leaves.passes in
    record {
      within = most;
      length = omega (arith, all.longer, length-take-le end bytes most);
      sectors = p.sectors;
      pushes = all;
    }

pub returns-then-total-from-clause-pushes : goal.returns-then-total-from-clause-pushes
returns-then-total-from-clause-pushes g c =
    let said : Result (Unit {0}) SnapshotFault = Err TooBig in
    record {
      pushes = pushes_nothing c.args.geometry.now c.args.bytes.now said c.args.self.now
          (g.D.Disk.medium c.args.disk.now) refl;
      room = tt;
      too_big = first_of (search rules, grind (arith, common_steps));
      cause = λ err. inl refl;
    }

pub returns-in_err-test_sectors-clause-pushes : goal.returns-in_err-test_sectors-clause-pushes
returns-in_err-test_sectors-clause-pushes g c = record {
  pushes = pushes_nothing c.args.geometry.now c.args.bytes.now c.from_residual.result
      c.args.self.now (g.D.Disk.medium c.args.disk.now) c.from_residual.ensures.0;
  room = search rules;
  too_big = first_of (search rules, grind (arith, common_steps));
  cause = first_of (search rules, grind (arith, common_steps));
}

pub returns-in_err-take_in-clause-pushes : goal.returns-in_err-take_in-clause-pushes
returns-in_err-take_in-clause-pushes g c =
    let i = c.loop-at.invariant in
    let a = c.args.self.now in
    let v = c.take_in.new.self in
    let old = g.D.Disk.medium c.args.disk.now in
    let mid = g.D.Disk.medium c.loop-at.disk in
    let new = g.D.Disk.medium c.take_in.new.disk in
    let geometry = c.args.geometry.now in
    let bytes = c.args.bytes.now in
    let at = c.loop-at.at in
    let end = c.min-end.result in
    let is = c.min-end.ensures in
    let test = c.loop-at-test.true in
    let open_one = c.loop-at.self.open in
    let le : at ≤ end = omega (arith, is, test, open_one) in
    let most : end ≤ length bytes = omega (arith, is) in
    let said = c.from_residual-in_err-take_in.result in
    let both = pushes_then geometry (take at bytes) (take (end - at) (drop at bytes))
    c.take_in.result a c.loop-at.self v old mid new i.pushes c.take_in.ensures.pushes in
    let all = subst (λ (l : List ℕ). PushesNext geometry l c.take_in.result a v old new)
    (front_and_piece at end bytes le) both in
    let cause = c.in_err-take_in.ensures.cause refl in
    let same = is_fault said c.in_err-take_in.field-0.0 c.from_residual-in_err-take_in.ensures.1 in
    record {
      pushes = pushes_longer geometry (take end bytes) bytes c.take_in.result said a v old new
          (omega (arith, length-take-le end bytes most, most))
          c.from_residual-in_err-take_in.ensures.0 all;
      room = on_err _ said c.from_residual-in_err-take_in.ensures.0;
      too_big = first_of (search rules, grind (arith, common_steps));
      cause = λ err. inr (
        cause.0,
        same ∙ cause.1,
        inr (fails_then geometry (take at bytes) a
            c.loop-at.self old mid new i.pushes cause.2),
      );
    }

pub returns-clause-pushes : goal.returns-clause-pushes
returns-clause-pushes g c =
    let i = c.loop-at.invariant in
    let old = g.D.Disk.medium c.args.disk.now in
    let new = g.D.Disk.medium c.loop-at.disk in
    let bytes = c.args.bytes.now in
    let test = c.loop-at-test.false in
    let said : Result (Unit {0}) SnapshotFault = Ok tt in
    record {
      pushes = subst (λ (l : List ℕ). PushesNext c.args.geometry.now l said c.args.self.now
          c.loop-at.self old new) (take_all c.loop-at.at bytes (omega (arith, test))) i.pushes;
      room = first_of (search rules, grind (arith, common_steps));
      too_big = first_of (search rules, grind (arith, common_steps));
      cause = first_of (search rules, grind (arith, common_steps));
    }
