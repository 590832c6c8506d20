use Rattle.std.proofs.Common.{◌≡◌, ◌≢◌, ◌+◌, ◌++◌, [], ◌∷◌, Err, Result, ap, arith}
use Rattle.std.proofs.Common.{inl, refl, rules, subst, sym}
use Rattle.sector_disk.specs.rules.DiskImage.{IsDiskImage}
use Rattle.sector_disk.specs.rules.File.{answers_of}
use Rattle.sector_disk.specs.rules.Pictures.{reads_of}
use Rattle.sector_disk.specs.declared.fault.DiskFault.{DiskFault}
use Rattle.sector_disk.specs.declared.fault.DiskFault.TheVariants.{Range}
use Rattle.sector_disk.specs.declared.file_call.FileCall.TheVariants.{Read}
use Rattle.sector_disk.proofs.PictureLemmas.{fails_behind, image_grows, reads_grow}
use Rattle.sector_disk.proofs.PictureLemmas.{was_read, was_read_on}
use Rattle.sector_disk.proofs.picture.read_front.Goals as goal

-- an error, as the result of a read
abbrev err : DiskFault → Result (Unit {0}) DiskFault
err fault = Err fault

pub returns-in-Err-clause-failed : goal.returns-in-Err-clause-failed
returns-in-Err-clause-failed g c =
    let l = c.loop-sector in
    let inside : c.in-Err.fault ≢ Range =
    λ is. let out = c.in-Err.ensures.range.0 (ap err is) in let s = l.invariant.sectors in
    omega arith in
    fails_behind c.in-Err.fault l.sector l.sectors.items c.read.new.into
    (answers_of c.args.disk.now) (answers_of l.disk) (answers_of c.read.new.self) inside
    l.invariant.answers c.in-Err.ensures.logged

pub returns-then-is_err-clause-failed : goal.returns-then-is_err-clause-failed
returns-then-is_err-clause-failed g c =
    let l = c.loop-sector in
    let old = answers_of c.args.disk.now in
    let mid = answers_of l.disk in (
      was_read_on old mid (answers_of c.read.new.self)
          (was_read l.sector l.sectors.items old mid l.invariant.answers)
          ((Read l.sector, c.read.new.into) ∷ [], c.in_default.ensures.logged.1, (tt, tt)),
      inl refl,
    )

pub loop-sector-preserved : goal.loop-sector-preserved
loop-sector-preserved g c =
    let l = c.loop-sector in
    let pushed : c.push.new.self.items ≡ l.sectors.items ++ c.read.new.into ∷ [] = search rules in
    record {
      image = subst (λ z. IsDiskImage (l.sector + 1) z) (sym pushed)
          (image_grows l.sector l.sectors.items c.read.new.into l.invariant.image (search rules));
      answers = subst (λ z. answers_of c.read.new.self
          ≡ reads_of (l.sector + 1) z ++ answers_of c.args.disk.now) (sym pushed)
          (reads_grow l.sector l.sectors.items c.read.new.into (answers_of c.args.disk.now)
          (answers_of l.disk) (answers_of c.read.new.self) l.invariant.image l.invariant.answers
          c.in_default.ensures.logged.1);
      sectors = search rules;
    }
