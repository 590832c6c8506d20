use Rattle.std.proofs.Common.{◌≡◌, ◌⊎◌, ◌<◌, ◌∙◌, ℕ, List, refl, sym, subst, inl, inr, ⊎_elim}
use Rattle.std.proofs.Common.{arith, rules, false}
use Rattle.std.specs.Prelude.{Result, Ok, Err, IsErr}
use Rattle.std.proofs.lemmas.Grind.{common_steps}
use Rattle.sector_disk.specs.declared.fault.DiskFault.{DiskFault}
use Rattle.disk_layout.specs.rules.Places.{journal_place}
use Rattle.snapshot.specs.declared.fault.SnapshotFault.{SnapshotFault}
use Rattle.snapshot.specs.declared.fault.SnapshotFault.TheVariants.{TooBig, Disk}
use Rattle.snapshot.specs.declared.writing.Writing.TheVariants.{Changes}
use Rattle.snapshot.specs.rules.Images.{NewImage, FailsInArea}
use Rattle.snapshot.specs.rules.Snapshots.{is_failed}
use Rattle.snapshot.specs.Writing.{written_length}
use Rattle.snapshot.proofs.PushLemmas.{on_err, begun_works, ok_no_err, disk_no_big}
use Rattle.snapshot.proofs.ReadLemmas.{is_fault}
use Rattle.snapshot.proofs.SnapshotLemmas.{writes_none, writes_failed, writes_ended, ended_cause}
use Rattle.snapshot.proofs.SnapshotLemmas.{first_fails}
use Rattle.snapshot.proofs.snapshots.Snapshots.commit.Goals as goal

abbrev changed_image : ℕ → ℕ → List ℕ → NewImage
changed_image generation version bytes = record {
  generation = generation;
  version = version;
  writing = Changes;
  bytes = bytes;
}

pub returns-in_err-begin-clause-commits : goal.returns-in_err-begin-clause-commits
returns-in_err-begin-clause-commits g c =
    let image = changed_image c.args.generation c.args.version c.args.process_image.now in
    record {
      writes = writes_none c.args.geometry.now image c.from_residual.result
          (g.D.Disk.medium c.args.disk.now) c.from_residual.ensures.0;
      idle = search rules;
      too_big = first_of (search rules, grind (arith, common_steps));
      fails = first_of (search rules, grind (arith, common_steps));
      cause = first_of (search rules, grind (arith, common_steps));
    }

pub returns-in_err-push-clause-commits : goal.returns-in_err-push-clause-commits
returns-in_err-push-clause-commits g c =
    let geometry = c.args.geometry.now in
    let image = changed_image c.args.generation c.args.version c.args.process_image.now in
    let old = g.D.Disk.medium c.args.disk.now in
    let new = g.D.Disk.medium c.push.new.disk in
    let s = c.begin.new.self in
    let begin = c.in_ok-begin.ensures in
    let begun = begin.begun in
    let works : is_failed c.args.self.now ≡ false = first_of (
      search rules,
      grind (arith, common_steps),
    ) in
    let said = c.from_residual-in_err-push.result in
    let is_err = c.from_residual-in_err-push.ensures.0 in
    let fault = c.in_err-push.field-0.0 in
    let same = is_fault said fault c.from_residual-in_err-push.ensures.1 in
    let told : Result (Unit {0}) SnapshotFault = Err fault in
    let push = c.in_err-push.ensures.pushes in
    let pushed = push.pushes begun.image begun.is in
    let starts = begun.starts in
    let none : written_length begun.image ≡ 0 = let a = starts.sectors in let f = starts.filled in
    omega (arith, a, f) in
    let big = pushed.1.too_big in
    record {
      writes = writes_failed geometry image begun.image pushed.0 old new begun.starts told said
          is_err pushed.1.pushes;
      idle = on_err _ said is_err;
      too_big = (
        λ is. (works, inr (omega (arith, big.0 (sym same ∙ is), none))),
        λ either. same ∙ big.1 (⊎_elim
            (λ late. absurd (ok_no_err tt TooBig (begin.too_big.1 (works, late))))
            (λ long. omega (arith, long, none)) either.1),
      );
      fails = first_of (search rules, grind (arith, common_steps));
      cause = λ err.
          ⊎_elim
          (λ is. inr (inl (same ∙ is)))
          (λ (d : (fault : DiskFault) × (told ≡ Err (Disk fault))
          × ((old.sectors < journal_place geometry)
          ⊎ FailsInArea geometry begun.image old new)). inr (inr (
            d.0,
            same ∙ d.1,
            ⊎_elim (λ few. inl few) (λ fails. ⊎_elim (λ less. inr (inl less)) (λ more.
                inr (inr (inr more)))
                (first_fails geometry image begun.image pushed.0 old new starts fails)) d.2,
          )))
          (pushed.1.cause refl);
    }

pub returns-clause-commits : goal.returns-clause-commits
returns-clause-commits g c =
    let geometry = c.args.geometry.now in
    let image = changed_image c.args.generation c.args.version c.args.process_image.now in
    let old = g.D.Disk.medium c.args.disk.now in
    let mid = g.D.Disk.medium c.push.new.disk in
    let new = g.D.Disk.medium c.finish.new.disk in
    let begin = c.in_ok-begin.ensures in
    let begun = begin.begun in
    let said = c.finish.result in
    let told : Result (Unit {0}) SnapshotFault = Ok tt in
    let push = c.in_ok-push.ensures.pushes in
    let pushed = push.pushes begun.image begun.is in
    let ends = c.finish.ensures.ends pushed.0 pushed.2 in
    let starts = begun.starts in
    let none : written_length begun.image ≡ 0 = let a = starts.sectors in let f = starts.filled in
    omega (arith, a, f) in
    let big = pushed.1.too_big in
    record {
      writes = writes_ended geometry image begun.image pushed.0 old mid starts new said
          pushed.1.pushes ends;
      idle = c.finish.ensures.idle;
      too_big = (
        λ is. absurd (⊎_elim (λ failed. begun_works c.push.new.self pushed.0 pushed.2 failed)
            (λ d. disk_no_big said d.0 d.1 is)
            (c.finish.ensures.cause (subst (λ (x : Result (Unit {0}) SnapshotFault). IsErr x)
            (sym is) refl))),
        λ either. absurd (⊎_elim
            (λ late. ok_no_err tt TooBig (begin.too_big.1 (either.0, late)))
            (λ long. ok_no_err tt TooBig (big.1 (omega (arith, long, none)))) either.1),
      );
      fails = first_of (search rules, grind (arith, common_steps));
      cause = λ err.
          ⊎_elim
          (λ failed. absurd (begun_works c.push.new.self pushed.0 pushed.2 failed))
          (λ d. inr (inr (
            d.0,
            d.1,
            ended_cause geometry image begun.image pushed.0 old mid starts new said pushed.1.pushes
                ends err,
          )))
          (c.finish.ensures.cause err);
    }
