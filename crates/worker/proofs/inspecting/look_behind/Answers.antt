use Rattle.std.proofs.Common.{sym, subst, arith}
use Rattle.std.specs.Prelude.{Ok}
use Rattle.sector_disk.proofs.Moments.{stays_shows}
use Rattle.disk_layout.specs.declared.reading.contents.Contents.{Contents}
use Rattle.disk_layout.specs.rules.Held.{GivesContents}
use Rattle.disk_layout.proofs.ReadLemmas.{reads_then}
use Rattle.worker.specs.Findings.{HasSearchCause}
use Rattle.worker.proofs.InspectionLemmas.{found_is_told, counted_since, counting_cause}
use Rattle.worker.proofs.inspecting.look_behind.Goals as goal

pub returns-in-Ok-find_linked-clause-reads : goal.returns-in-Ok-find_linked-clause-reads
returns-in-Ok-find_linked-clause-reads g c =
    reads_then (g.D.Disk.medium c.args.disk.now) (g.D.Disk.medium c.find_linked.new.disk)
    (g.D.Disk.medium c.count_left-left.new.disk) c.in-Ok-find_linked.ensures.searches.reads
    c.count_left-left.ensures.reads

pub returns-in-Ok-find_linked-clause-tells : goal.returns-in-Ok-find_linked-clause-tells
returns-in-Ok-find_linked-clause-tells g c = λ image shown sectors gives.
    let reads = c.count_left-left.ensures.reads in
    let before = stays_shows (g.D.Disk.medium c.find_linked.new.disk)
    (g.D.Disk.medium c.count_left-left.new.disk) reads.stays image shown in
    found_is_told sectors image c.in-Ok.kept c.in-Ok-find_linked.found
    (subst (λ (x : Contents). GivesContents sectors image (Ok x)) (sym c.in-Ok.ensures) gives)
    (c.in-Ok-find_linked.ensures.shows image before sectors gives) c.count_left-left.result
    c.tell_found.result
    (c.count_left-left.ensures.counts image shown) c.tell_found.ensures

pub returns-in-Ok-find_linked-clause-cause : goal.returns-in-Ok-find_linked-clause-cause
returns-in-Ok-find_linked-clause-cause g c =
    let old = g.D.Disk.medium c.args.disk.now in
    let mid = g.D.Disk.medium c.find_linked.new.disk in
    let new = g.D.Disk.medium c.count_left-left.new.disk in
    let reads = c.in-Ok-find_linked.ensures.searches.reads in
    let leaves = reads.leaves in
    let later = leaves.passes.faults in
    counting_cause (HasSearchCause old new) c.in-Ok.kept c.in-Ok-find_linked.found
    c.count_left-left.result c.tell_found.result
    (counted_since old mid new c.count_left-left.result later c.count_left-left.ensures.cause)
    c.tell_found.ensures

pub returns-in-Ok-find_linked-clause-asks : goal.returns-in-Ok-find_linked-clause-asks
returns-in-Ok-find_linked-clause-asks g c =
    let reads = c.in-Ok-find_linked.ensures.searches.reads in
    let leaves = reads.leaves in
    let same = leaves.passes.sectors in
    omega (arith, c.in-Ok-find_linked.ensures.searches.asks, c.count_left-left.ensures.asks, same)
