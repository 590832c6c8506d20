use Rattle.std.proofs.Common.{◌≡◌, ◌*◌, [], arith}
use Rattle.std.proofs.lemmas.Result.{err_from_is_err_and}
use Rattle.sector_disk.proofs.Moments.{stays_shows}
use Rattle.disk_layout.specs.declared.reading.contents.Contents.{Contents}
use Rattle.worker_store.specs.rules.Savepoints.{places}
use Rattle.worker.proofs.FindingLemmas.{unread_says, searches_on, searches_in_vain, few_on}
use Rattle.worker.proofs.FindingLemmas.{marks_there, marks_unread}
use Rattle.worker.proofs.FoundDiskLemmas.{contents_unread}
use Rattle.worker.proofs.finding.find.Goals as goal

-- ---- configuration and module weren't read

pub returns-in_err-contents-clause-searches : goal.returns-in_err-contents-clause-searches
returns-in_err-contents-clause-searches g c =
    let p = err_from_is_err_and c.from_residual.result c.from_residual.ensures.1 in
    let failed = c.in_err-contents.ensures in
    let old = g.D.Disk.medium c.args.disk.now in
    rw (p.1, p.2) (searches_in_vain old.sectors (2 * old.sectors) old
    (g.D.Disk.medium c.read_worker.new.disk) c.in_err-contents.field-0.0 (omega arith)
    failed.reads failed.asks failed.cause)

pub returns-in_err-contents-clause-few : goal.returns-in_err-contents-clause-few
returns-in_err-contents-clause-few g c =
    let p = err_from_is_err_and c.from_residual.result c.from_residual.ensures.1 in
    rw p.1 tt

pub returns-in_err-contents-clause-finds : goal.returns-in_err-contents-clause-finds
returns-in_err-contents-clause-finds g c =
    let p = err_from_is_err_and c.from_residual.result c.from_residual.ensures.1 in
    rw (p.1, p.2) (
      [],
      λ image shown m config point records last at room.
          unread_says Contents
          (λ found. found
          ≡ record { geometry = places point; config = config; wasm = point.wasm })
          c.in_err-contents.field-0.0
          (c.in_err-contents.ensures.gives image shown m config point records last at room),
    )

pub returns-in_err-contents-clause-shows : goal.returns-in_err-contents-clause-shows
returns-in_err-contents-clause-shows g c =
    let p = err_from_is_err_and c.from_residual.result c.from_residual.ensures.1 in
    let was = g.D.Disk.medium c.args.disk.now in
    rw (p.1, p.2) (λ image shown. contents_unread was.sectors image c.in_err-contents.field-0.0
    (c.in_err-contents.ensures.tells image shown))

pub returns-in_err-contents-clause-marks : goal.returns-in_err-contents-clause-marks
returns-in_err-contents-clause-marks g c =
    let p = err_from_is_err_and c.from_residual.result c.from_residual.ensures.1 in
    rw (p.1, p.2) (λ image shown. marks_unread image c.in_err-contents.field-0.0
    (c.in_err-contents.ensures.marks image shown))

-- ---- they were

pub returns-clause-searches : goal.returns-clause-searches
returns-clause-searches g c =
    let read = c.in_ok-contents.ensures in
    let old = g.D.Disk.medium c.args.disk.now in
    let mid = g.D.Disk.medium c.read_worker.new.disk in
    let leaves = read.reads.leaves in
    let same = leaves.passes.sectors in
    searches_on old.sectors mid.sectors (2 * old.sectors) old mid
    (g.D.Disk.medium c.find_linked.new.disk) c.find_linked.result (omega (arith, same))
    read.reads read.asks c.find_linked.ensures.searches

pub returns-clause-few : goal.returns-clause-few
returns-clause-few g c =
    let old = g.D.Disk.medium c.args.disk.now in
    few_on old.sectors old (g.D.Disk.medium c.read_worker.new.disk)
    (g.D.Disk.medium c.find_linked.new.disk) c.find_linked.result c.in_ok-contents.ensures.asks
    c.find_linked.ensures.few

pub returns-clause-finds : goal.returns-clause-finds
returns-clause-finds g c = (
  c.in_ok-contents.contents.wasm,
  λ image shown m config point records last at room.
      let reads = c.find_linked.ensures.searches.reads in
      let before = stays_shows (g.D.Disk.medium c.read_worker.new.disk)
      (g.D.Disk.medium c.find_linked.new.disk) reads.stays image shown in
      c.find_linked.ensures.finds image shown m config point records last at
      (c.in_ok-contents.ensures.gives image before m config point records last at room),
)

pub returns-clause-shows : goal.returns-clause-shows
returns-clause-shows g c = λ image shown.
    let was = g.D.Disk.medium c.args.disk.now in
    let reads = c.find_linked.ensures.searches.reads in
    let before = stays_shows (g.D.Disk.medium c.read_worker.new.disk)
    (g.D.Disk.medium c.find_linked.new.disk) reads.stays image shown in
    c.find_linked.ensures.shows image shown was.sectors
    (c.in_ok-contents.ensures.tells image before)

pub returns-clause-marks : goal.returns-clause-marks
returns-clause-marks g c = λ image shown.
    let reads = c.find_linked.ensures.searches.reads in
    let before = stays_shows (g.D.Disk.medium c.read_worker.new.disk)
    (g.D.Disk.medium c.find_linked.new.disk) reads.stays image shown in
    marks_there image c.in_ok-contents.contents c.find_linked.result
    (c.in_ok-contents.ensures.marks image before) c.find_linked.ensures.own
