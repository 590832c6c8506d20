use Rattle.std.proofs.Common.{◌≡◌, ℕ, Err, Result, sym, ap, ◌∙◌, subst}
use Rattle.std.proofs.lemmas.Result.{err_from_is_err_and}
use Rattle.disk_layout.specs.declared.fault.LayoutFault.{LayoutFault}
use Rattle.disk_layout.specs.declared.reading.contents.Contents.{Contents}
use Rattle.disk_layout.specs.rules.Held.{GivesContents}
use Rattle.disk_layout.specs.Held.{Agrees}
use Rattle.disk_layout.proofs.ReadingLemmas.HeldLemmas.{gives_stored, gives_fault}
use Rattle.disk_layout.proofs.reading.contents.read_contents.Goals as goal

pub returns-in_err-stored-clause-gives : goal.returns-in_err-stored-clause-gives
returns-in_err-stored-clause-gives g c = λ image shows.
    let old = g.D.Disk.medium c.args.disk.now in
    let p = err_from_is_err_and c.from_residual.result c.from_residual.ensures.1 in
    let P : Result Contents LayoutFault → Type 0 = λ r. GivesContents old.sectors image r in
    let given = gives_fault old.sectors image c.in_err-stored.field-0.0
    (c.in_err-stored.ensures.finds image shows) in
    let same : c.from_residual.result ≡ Err c.in_err-stored.field-0.0 =
    p.1 ∙ ap (λ (e : LayoutFault). (let r : Result Contents LayoutFault = Err e in r)) p.2 in
    subst P (sym same) given

pub returns-clause-gives : goal.returns-clause-gives
returns-clause-gives g c = λ image shows.
    let old = g.D.Disk.medium c.args.disk.now in
    let agrees =
    subst (λ (n : ℕ). Agrees n c.in_ok-stored.stored c.agree.result) c.sectors-sectors.ensures
    c.agree.ensures in
    gives_stored old.sectors image c.in_ok-stored.stored c.agree.result
    (c.in_ok-stored.ensures.finds image shows) agrees
