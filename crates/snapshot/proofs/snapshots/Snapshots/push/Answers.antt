use Rattle.std.proofs.Common.{◌≡◌, refl, sym, subst, arith, rules}
use Rattle.std.specs.Prelude.{Result, Ok, Err}
use Rattle.std.proofs.lemmas.Grind.{common_steps}
use Rattle.snapshot.specs.declared.fault.SnapshotFault.{SnapshotFault}
use Rattle.snapshot.specs.declared.snapshots.SaveState.TheVariants as state
use Rattle.snapshot.specs.declared.writer.AreaWriter.{AreaWriter}
use Rattle.snapshot.specs.rules.Images.{PushesWithin}
use Rattle.snapshot.proofs.PushLemmas.{on_err, one_image}
use Rattle.snapshot.proofs.ReadLemmas.{is_fault}
use Rattle.snapshot.proofs.snapshots.Snapshots.push.Goals as goal

pub returns-in_err-push-clause-pushes : goal.returns-in_err-push-clause-pushes
returns-in_err-push-clause-pushes g c =
    let geometry = c.args.geometry.now in
    let bytes = c.args.bytes.now in
    let old = g.D.Disk.medium c.args.disk.now in
    let new = g.D.Disk.medium c.push.new.disk in
    let v = c.push.new.self in
    let before = c.args.self.now.state in
    let w = c.in-Begun.writer in
    let was : before ≡ state.Begun w = sym c.in-Begun.ensures.value in
    let said = c.from_residual.result in
    let is_err = c.from_residual.ensures.0 in
    let fault = c.in_err-push.field-0.0 in
    let same : said ≡ Err fault = is_fault said fault c.from_residual.ensures.1 in
    record {
      pushes = λ x begun. (
        v,
        subst (λ (a : AreaWriter). PushesWithin geometry bytes said a v old new)
            (one_image before w x was begun)
            (subst (λ (r : Result (Unit {0}) SnapshotFault).
            PushesWithin geometry bytes r w v old new) (sym same) c.in_err-push.ensures.pushes),
        on_err _ said is_err,
      );
      begun = on_err _ said is_err;
      can_end = on_err _ said is_err;
      fails = first_of (search rules, grind (arith, common_steps));
    }

pub returns-clause-pushes : goal.returns-clause-pushes
returns-clause-pushes g c =
    let geometry = c.args.geometry.now in
    let old = g.D.Disk.medium c.args.disk.now in
    let new = g.D.Disk.medium c.push.new.disk in
    let before = c.args.self.now.state in
    let w = c.in-Begun.writer in
    let was : before ≡ state.Begun w = sym c.in-Begun.ensures.value in
    let said : Result (Unit {0}) SnapshotFault = Ok tt in
    record {
      pushes = λ x begun. (
        c.push.new.self,
        subst (λ (a : AreaWriter).
            PushesWithin geometry c.args.bytes.now said a c.push.new.self old new)
            (one_image before w x was begun) c.in_ok-push.ensures.pushes,
        refl,
      );
      begun = refl;
      can_end = c.in_ok-push.ensures.pushes.room;
      fails = first_of (search rules, grind (arith, common_steps));
    }
