use Rattle.std.proofs.Common.{◌≡◌, Option, Result, Err, subst, sym}
use Rattle.sector_disk.proofs.Moments.{stays_shows}
use Rattle.disk_layout.specs.declared.head.Head.{Head}
use Rattle.snapshot.specs.rules.Heads.{FindsHead}
use Rattle.snapshot.specs.rules.Newest.{FindsNewest}
use Rattle.snapshot.proofs.ReadLemmas.{named_holds, fault_found, is_fault}
use Rattle.snapshot.specs.declared.fault.SnapshotFault.{SnapshotFault}
use Rattle.snapshot.specs.declared.newest.Snapshot.{Snapshot}
use Rattle.snapshot.proofs.snapshots.Snapshots.newest.Goals as goal

pub returns-in_err-process_image-clause-finds : goal.returns-in_err-process_image-clause-finds
returns-in_err-process_image-clause-finds g c = λ image shows.
    let mid = g.D.Disk.medium c.newest_head.new.disk in
    let new = g.D.Disk.medium c.process_image_of.new.disk in
    let stays = c.process_image_of.ensures.reads.stays in
    let fault = c.in_err-process_image.field-0.0 in
    let newest =
    subst (λ (o : Option Head). FindsHead image o) c.in-Some.is
    (c.in_ok-head.ensures.finds image (stays_shows mid new stays image shows)) in
    let is = c.from_residual-in_err-process_image.ensures in
    let same : c.from_residual-in_err-process_image.result ≡ Err fault =
    is_fault c.from_residual-in_err-process_image.result fault is.1 in
    subst (λ (r : Result (Option Snapshot) SnapshotFault). FindsNewest c.args.geometry.now image r)
    (sym same) (fault_found c.args.geometry.now image c.in-Some.head fault newest
    (c.in_err-process_image.ensures.process_image image shows))

pub returns-clause-finds : goal.returns-clause-finds
returns-clause-finds g c = λ image shows.
    let mid = g.D.Disk.medium c.newest_head.new.disk in
    let new = g.D.Disk.medium c.process_image_of.new.disk in
    let stays = c.process_image_of.ensures.reads.stays in
    let newest =
    subst (λ (o : Option Head). FindsHead image o) c.in-Some.is
    (c.in_ok-head.ensures.finds image (stays_shows mid new stays image shows)) in
    named_holds c.args.geometry.now image c.in-Some.head c.in_ok-process_image.process_image newest
    (c.in_ok-process_image.ensures.process_image image shows)
