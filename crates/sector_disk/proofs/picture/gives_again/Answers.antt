use Rattle.std.proofs.Common.{◌≡◌, ◌≢◌, ◌∙◌, ◌∷◌, Err, Result, ap, arith, rules}
use Rattle.sector_disk.specs.rules.DiskImage.{sector_at}
use Rattle.sector_disk.specs.rules.File.{answers_of}
use Rattle.sector_disk.specs.declared.fault.DiskFault.{DiskFault}
use Rattle.sector_disk.specs.declared.fault.DiskFault.TheVariants.{Range}
use Rattle.sector_disk.specs.declared.file_call.FileCall.TheVariants.{Read}
use Rattle.sector_disk.proofs.PictureLemmas.{fails_behind, reads_on}
use Rattle.sector_disk.proofs.picture.gives_again.Goals as goal

-- an error, as the result of a read
abbrev err : DiskFault → Result (Unit {0}) DiskFault
err fault = Err fault

pub returns-in-Err-clause-failed : goal.returns-in-Err-clause-failed
returns-in-Err-clause-failed g c =
    let l = c.loop-sector in
    let inside : c.in-Err.fault ≢ Range =
    λ is. let out = c.in-Err.ensures.range.0 (ap err is) in let s = l.invariant.sectors in
    omega arith in
    fails_behind c.in-Err.fault l.sector c.args.sectors.now c.read.new.into
    (answers_of c.args.disk.now) (answers_of l.disk) (answers_of c.read.new.self) inside
    l.invariant.answers c.in-Err.ensures.logged

pub returns-then-not-are_same-clause-again : goal.returns-then-not-are_same-clause-again
returns-then-not-are_same-clause-again g c =
    let l = c.loop-sector in (
      l.sector,
      c.read.new.into,
      search rules,
      search rules,
      c.in_default.ensures.logged.1
          ∙ ap (λ z. (Read l.sector, c.read.new.into) ∷ z) l.invariant.answers,
    )

pub loop-sector-preserved : goal.loop-sector-preserved
loop-sector-preserved g c =
    let l = c.loop-sector in
    let same : c.read.new.into ≡ sector_at c.args.sectors.now l.sector = search rules in
    record {
      answers = reads_on l.sector c.args.sectors.now (answers_of c.args.disk.now)
          (answers_of l.disk) (answers_of c.read.new.self) l.invariant.answers
          (c.in_default.ensures.logged.1
          ∙ ap (λ z. (Read l.sector, z) ∷ answers_of l.disk) same);
      sectors = search rules;
    }
