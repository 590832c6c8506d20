use Rattle.std.proofs.Common.{◌≡◌, refl, sym, subst}
use Rattle.std.specs.Prelude.{Result, Ok, Err}
use Rattle.sector_disk.specs.declared.fault.DiskFault.{DiskFault}
use Rattle.snapshot.specs.declared.fault.SnapshotFault.{SnapshotFault}
use Rattle.snapshot.specs.declared.snapshots.SaveState.TheVariants as state
use Rattle.snapshot.specs.declared.writer.AreaWriter.{AreaWriter}
use Rattle.snapshot.specs.rules.Images.{EndsImage}
use Rattle.snapshot.proofs.PushLemmas.{on_err, one_image, ends_as}
use Rattle.snapshot.proofs.snapshots.Snapshots.finish.Goals as goal

pub returns-in_err-finish-clause-ends : goal.returns-in_err-finish-clause-ends
returns-in_err-finish-clause-ends g c image begun =
    let old = g.D.Disk.medium c.args.disk.now in
    let new = g.D.Disk.medium c.finish.new.disk in
    let w = c.in-Begun.writer in
    let was : c.args.self.now.state ≡ state.Begun w = sym c.in-Begun.ensures.value in
    let said = c.from_residual.result in
    let told : Result (Unit {0}) DiskFault = Err c.in_err-finish.field-0.0 in
    subst (λ (x : AreaWriter). EndsImage c.args.geometry.now said x old new)
    (one_image c.args.self.now.state w image was begun)
    (ends_as c.args.geometry.now told said w old new
    (λ P ok. on_err P said c.from_residual.ensures.0) (λ err. refl) c.in_err-finish.ensures.ends)

pub returns-clause-ends : goal.returns-clause-ends
returns-clause-ends g c image begun =
    let old = g.D.Disk.medium c.args.disk.now in
    let new = g.D.Disk.medium c.finish.new.disk in
    let w = c.in-Begun.writer in
    let was : c.args.self.now.state ≡ state.Begun w = sym c.in-Begun.ensures.value in
    let told : Result (Unit {0}) DiskFault = Ok tt in
    let said : Result (Unit {0}) SnapshotFault = Ok tt in
    subst (λ (x : AreaWriter). EndsImage c.args.geometry.now said x old new)
    (one_image c.args.self.now.state w image was begun)
    (ends_as c.args.geometry.now told said w old new (λ P ok. ok) (λ err. err)
    c.in_ok-finish.ensures.ends)
