use Rattle.std.proofs.Common.{◌≡◌, ◌<◌, ◌∙◌, refl, sym, subst, inl, inr, ⊎_elim, arith}
use Rattle.std.specs.Prelude.{Result, Err, IsErr}
use Rattle.sector_disk.specs.declared.fault.DiskFault.{DiskFault}
use Rattle.disk_layout.specs.rules.Places.{journal_place}
use Rattle.snapshot.specs.declared.fault.SnapshotFault.{SnapshotFault}
use Rattle.snapshot.specs.declared.fault.SnapshotFault.TheVariants.{Disk}
use Rattle.snapshot.specs.rules.Images.{FailsInArea}
use Rattle.snapshot.proofs.PushLemmas.{begun_works, can_end, disk_no_big}
use Rattle.snapshot.proofs.ReadLemmas.{is_fault}
use Rattle.snapshot.proofs.SnapshotLemmas.{writes_none, writes_failed, writes_ended, ended_cause}
use Rattle.snapshot.proofs.SnapshotLemmas.{first_fails}
use Rattle.worker_store.specs.Filling.{snapshot_of}
use Rattle.worker_store.proofs.SavingLemmas.{begun_as}
use Rattle.worker_store.proofs.saving.write_snapshot.Goals as goal

pub returns-in_err-begin-clause-writes : goal.returns-in_err-begin-clause-writes
returns-in_err-begin-clause-writes g c =
    writes_none c.args.geometry.now
    (snapshot_of c.args.generation c.args.writing c.args.process.now) c.from_residual.result
    (g.D.Disk.medium c.args.disk.now) c.from_residual.ensures.0

pub returns-in_err-fill_area-clause-writes : goal.returns-in_err-fill_area-clause-writes
returns-in_err-fill_area-clause-writes g c =
    let begun = begun_as c.version.result c.number.result c.args.process.now c.number.ensures
    c.version.ensures c.args.generation c.args.writing c.begin.new.self
    c.in_ok-begin.ensures.begun in
    let takes = c.fill_area.ensures.into begun.image begun.is in
    writes_failed c.args.geometry.now
    (snapshot_of c.args.generation c.args.writing c.args.process.now) begun.image takes.image
    (g.D.Disk.medium c.args.disk.now) (g.D.Disk.medium c.fill_area.new.disk) begun.starts
    c.fill_area.result c.from_residual-in_err-fill_area.result
    c.from_residual-in_err-fill_area.ensures.0 takes.pushes

pub returns-clause-writes : goal.returns-clause-writes
returns-clause-writes g c =
    let begun = begun_as c.version.result c.number.result c.args.process.now c.number.ensures
    c.version.ensures c.args.generation c.args.writing c.begin.new.self
    c.in_ok-begin.ensures.begun in
    let takes = c.in_ok-fill_area.ensures.into begun.image begun.is in
    writes_ended c.args.geometry.now
    (snapshot_of c.args.generation c.args.writing c.args.process.now) begun.image takes.image
    (g.D.Disk.medium c.args.disk.now) (g.D.Disk.medium c.fill_area.new.disk) begun.starts
    (g.D.Disk.medium c.finish.new.disk) c.finish.result takes.pushes
    (c.finish.ensures.ends takes.image takes.is)

pub returns-in_err-fill_area-clause-too_big : goal.returns-in_err-fill_area-clause-too_big
returns-in_err-fill_area-clause-too_big g c is =
    let begun = c.in_ok-begin.ensures.begun in
    let starts = begun.starts in
    let sectors = starts.sectors in
    let filled = starts.filled in
    let said = c.from_residual-in_err-fill_area.result in
    let same = is_fault said c.in_err-fill_area.field-0.0
    c.from_residual-in_err-fill_area.ensures.1 in
    let takes = c.in_err-fill_area.ensures.into begun.image begun.is in
    inr (omega (arith, takes.too_big (sym same ∙ is), sectors, filled))

pub returns-in_err-fill_area-clause-cause : goal.returns-in_err-fill_area-clause-cause
returns-in_err-fill_area-clause-cause g c err =
    let old = g.D.Disk.medium c.args.disk.now in
    let new = g.D.Disk.medium c.fill_area.new.disk in
    let begun = begun_as c.version.result c.number.result c.args.process.now c.number.ensures
    c.version.ensures c.args.generation c.args.writing c.begin.new.self
    c.in_ok-begin.ensures.begun in
    let said = c.from_residual-in_err-fill_area.result in
    let fault = c.in_err-fill_area.field-0.0 in
    let told : Result (Unit {0}) SnapshotFault = Err fault in
    let same = is_fault said fault c.from_residual-in_err-fill_area.ensures.1 in
    let takes = c.in_err-fill_area.ensures.into begun.image begun.is in
    ⊎_elim
    (λ is. inl (same ∙ is))
    (λ (d : (fault : DiskFault) × (told ≡ Err (Disk fault))
    × FailsInArea c.args.geometry.now begun.image old new). inr (
      d.0,
      same ∙ d.1,
      ⊎_elim (λ less. inl less) (λ more. inr (inr more))
          (first_fails c.args.geometry.now
          (snapshot_of c.args.generation c.args.writing c.args.process.now) begun.image takes.image
          old new begun.starts d.2),
    ))
    (takes.cause refl)

pub finish-requires : goal.finish-requires
finish-requires g c =
    let begun = c.in_ok-begin.ensures.begun in
    let starts = begun.starts in
    let sectors = starts.sectors in
    let filled = starts.filled in
    let takes = c.in_ok-fill_area.ensures.into begun.image begun.is in
    let pushes = takes.pushes in
    can_end c.args.geometry.now c.fill_area.new.snapshots takes.image takes.is
    (pushes.fits (omega (arith, sectors, filled)))

pub returns-clause-too_big : goal.returns-clause-too_big
returns-clause-too_big g c is =
    let begun = c.in_ok-begin.ensures.begun in
    let takes = c.in_ok-fill_area.ensures.into begun.image begun.is in
    absurd (⊎_elim
    (λ failed. begun_works c.fill_area.new.snapshots takes.image takes.is failed)
    (λ d. disk_no_big c.finish.result d.0 d.1 is)
    (c.finish.ensures.cause
    (subst (λ (x : Result (Unit {0}) SnapshotFault). IsErr x) (sym is) refl)))

pub returns-clause-cause : goal.returns-clause-cause
returns-clause-cause g c err =
    let old = g.D.Disk.medium c.args.disk.now in
    let mid = g.D.Disk.medium c.fill_area.new.disk in
    let new = g.D.Disk.medium c.finish.new.disk in
    let room = c.requires in
    let begun = begun_as c.version.result c.number.result c.args.process.now c.number.ensures
    c.version.ensures c.args.generation c.args.writing c.begin.new.self
    c.in_ok-begin.ensures.begun in
    let takes = c.in_ok-fill_area.ensures.into begun.image begun.is in
    let causes = ended_cause c.args.geometry.now
    (snapshot_of c.args.generation c.args.writing c.args.process.now) begun.image takes.image
    old mid begun.starts new c.finish.result takes.pushes
    (c.finish.ensures.ends takes.image takes.is) err in
    ⊎_elim
    (λ failed. absurd (begun_works c.fill_area.new.snapshots takes.image takes.is failed))
    (λ d. inr (
      d.0,
      d.1,
      ⊎_elim (λ (few : old.sectors < journal_place c.args.geometry.now). absurd (omega (
        arith,
        few,
        room,
      ))) (λ rest. rest) causes,
    ))
    (c.finish.ensures.cause err)
