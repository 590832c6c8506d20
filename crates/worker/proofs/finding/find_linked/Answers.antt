use Rattle.std.proofs.Common.{◌≡◌, ◌+◌, ◌≤◌, ap, ◌∙◌, arith}
use Rattle.std.specs.Prelude.{Ok, Err, Vec}
use Rattle.std.specs.declared.alloc.Global.{Global}
use Rattle.std.proofs.lemmas.Result.{err_from_is_err_and}
use Rattle.sector_disk.proofs.Moments.{stays_shows}
use Rattle.disk_layout.specs.declared.reading.contents.Contents.{Contents}
use Rattle.disk_layout.specs.rules.Journal.{Record}
use Rattle.disk_layout.specs.rules.Places.{total_sectors}
use Rattle.state_image.specs.rules.ProcessImage.{process_image as process_image_of}
use Rattle.worker_store.specs.declared.newest.NewestProcessImage.{NewestProcessImage}
use Rattle.worker.specs.declared.found.Found.{Found}
use Rattle.worker.specs.declared.recover_fault.RecoverFault.TheVariants as recover
use Rattle.worker.specs.rules.RecoverFaults.{fault_of_read}
use Rattle.worker.proofs.EnoughLemmas.{with_enough}
use Rattle.worker.proofs.RestoringLemmas.{begun_machine, unaccepted, unmade, its_version, found_at}
use Rattle.worker.proofs.FindingLemmas.{says_denied, unread_says, searches_on, searched}
use Rattle.worker.proofs.FindingLemmas.{searches_in_vain, searches_no_more}
use Rattle.worker.proofs.FoundDiskLemmas.{module_refused, newest_unread, process_unmade}
use Rattle.worker.proofs.FoundDiskLemmas.{records_unread, all_found}
use Rattle.worker.proofs.finding.find_linked.Goals as goal

pub restore_into-requires : goal.restore_into-requires
restore_into-requires g c =
    begun_machine c.args.contents.config c.pages.result c.as_slice.result.now
    c.in_ok-machine.machine c.pages.ensures.value c.in_ok-machine.ensures.accepted

-- ---- the module isn't accepted

pub returns-in_err-machine-clause-searches : goal.returns-in_err-machine-clause-searches
returns-in_err-machine-clause-searches g c =
    let p = err_from_is_err_and c.from_residual.result c.from_residual.ensures.1 in
    let m = g.D.Disk.medium c.args.disk.now in
    rw (p.1, p.2) (searches_no_more m.sectors m (recover.Module c.in_err-machine.field-0.0) tt)

pub returns-in_err-machine-clause-few : goal.returns-in_err-machine-clause-few
returns-in_err-machine-clause-few g c =
    let p = err_from_is_err_and c.from_residual.result c.from_residual.ensures.1 in
    rw p.1 tt

pub returns-in_err-machine-clause-finds : goal.returns-in_err-machine-clause-finds
returns-in_err-machine-clause-finds g c =
    let p = err_from_is_err_and c.from_residual.result c.from_residual.ensures.1 in
    rw (p.1, p.2) (λ image shown m config point records last at content.
    unaccepted at c.args.contents content c.pages.result c.as_slice.result.now
    c.pages.ensures.value c.as_slice.ensures c.in_err-machine.field-0.0
    c.in_err-machine.ensures.only)

pub returns-in_err-machine-clause-shows : goal.returns-in_err-machine-clause-shows
returns-in_err-machine-clause-shows g c =
    let p = err_from_is_err_and c.from_residual.result c.from_residual.ensures.1 in
    rw (p.1, p.2) (λ image shown sectors whole.
    module_refused sectors image c.args.contents whole c.pages.result c.as_slice.result.now
    c.pages.ensures.value c.as_slice.ensures c.in_err-machine.field-0.0
    c.in_err-machine.ensures.reported c.in_err-machine.ensures.only)

pub returns-in_err-machine-clause-own : goal.returns-in_err-machine-clause-own
returns-in_err-machine-clause-own g c =
    let p = err_from_is_err_and c.from_residual.result c.from_residual.ensures.1 in
    rw (p.1, p.2) (λ says. says)

-- ---- the newest image wasn't read

pub returns-in-Err-clause-searches : goal.returns-in-Err-clause-searches
returns-in-Err-clause-searches g c =
    let failed = c.in-Err.ensures in
    let old = g.D.Disk.medium c.args.disk.now in
    let geometry = c.args.contents.geometry in
    let room = c.requires in
    rw c.from.ensures (searches_in_vain (geometry.area_sectors + 2) old.sectors old
    (g.D.Disk.medium c.read_newest.new.disk) c.in-Err.fault (omega (arith, room))
    failed.reads failed.asks
    (with_enough old.sectors (total_sectors geometry) room failed.cause))

pub returns-in-Err-clause-few : goal.returns-in-Err-clause-few
returns-in-Err-clause-few g c = tt

pub returns-in-Err-clause-finds : goal.returns-in-Err-clause-finds
returns-in-Err-clause-finds g c =
    rw c.from.ensures (λ image shown m config point records last at content.
    unread_says NewestProcessImage
    (λ found. (found.generation ≡ point.generation) × (found.version ≡ point.saved.version)
    × (found.process_image ≡ process_image_of point.saved)) c.in-Err.fault
    (c.in-Err.ensures.finds image shown m config point records last at
    (ap (λ (s : Contents). s.geometry) content)))

pub returns-in-Err-clause-shows : goal.returns-in-Err-clause-shows
returns-in-Err-clause-shows g c =
    rw c.from.ensures (λ image shown sectors whole.
    newest_unread sectors image c.args.contents whole c.pages.result c.as_slice.result.now
    c.pages.ensures.value c.as_slice.ensures c.in_ok-machine.machine
    c.in_ok-machine.ensures.accepted c.in-Err.fault
    (c.in-Err.ensures.tells image shown))

pub returns-in-Err-clause-own : goal.returns-in-Err-clause-own
returns-in-Err-clause-own g c =
    rw c.from.ensures (λ says. c.in-Err.ensures.own
    (says_denied NewestProcessImage Found c.in-Err.fault says))

-- ---- its process wasn't made again

pub returns-in_err-process-clause-searches : goal.returns-in_err-process-clause-searches
returns-in_err-process-clause-searches g c =
    let p = err_from_is_err_and c.from_residual-in_err-process.result
    c.from_residual-in_err-process.ensures.1 in
    let read = c.in-Ok.ensures in
    let old = g.D.Disk.medium c.args.disk.now in
    let mid = g.D.Disk.medium c.read_newest.new.disk in
    let fault = recover.ProcessImage c.in_err-process.field-0.0 in
    let room = c.requires in
    rw (p.1, p.2) (searches_on (c.args.contents.geometry.area_sectors + 2) 0 old.sectors old mid
    mid (Err fault) (omega (arith, room)) read.reads read.asks (searches_no_more 0 mid fault tt))

pub returns-in_err-process-clause-few : goal.returns-in_err-process-clause-few
returns-in_err-process-clause-few g c =
    let p = err_from_is_err_and c.from_residual-in_err-process.result
    c.from_residual-in_err-process.ensures.1 in
    rw p.1 tt

pub returns-in_err-process-clause-finds : goal.returns-in_err-process-clause-finds
returns-in_err-process-clause-finds g c =
    let p = err_from_is_err_and c.from_residual-in_err-process.result
    c.from_residual-in_err-process.ensures.1 in
    rw (p.1, p.2) (λ image shown m config point records last at content.
    let found = c.in-Ok.ensures.finds image shown m config point records last at
    (ap (λ (s : Contents). s.geometry) content) in
    unmade at c.args.contents content c.pages.result c.as_slice.result.now
    c.pages.ensures.value c.as_slice.ensures c.in_ok-machine.machine
    c.in_ok-machine.ensures.accepted c.as_slice-2.result.now
    (c.as_slice-2.ensures ∙ found.2) c.in_err-process.field-0.0 c.in_err-process.ensures.refused)

pub returns-in_err-process-clause-shows : goal.returns-in_err-process-clause-shows
returns-in_err-process-clause-shows g c =
    let p = err_from_is_err_and c.from_residual-in_err-process.result
    c.from_residual-in_err-process.ensures.1 in
    rw (p.1, p.2) (λ image shown sectors whole.
    process_unmade sectors image c.args.contents whole c.pages.result c.as_slice.result.now
    c.pages.ensures.value c.as_slice.ensures c.in_ok-machine.machine
    c.in_ok-machine.ensures.accepted c.in-Ok.newest
    (c.in-Ok.ensures.tells image shown) c.as_slice-2.result.now c.as_slice-2.ensures
    c.in_err-process.field-0.0 c.in_err-process.ensures.refused)

pub returns-in_err-process-clause-own : goal.returns-in_err-process-clause-own
returns-in_err-process-clause-own g c =
    let p = err_from_is_err_and c.from_residual-in_err-process.result
    c.from_residual-in_err-process.ensures.1 in
    rw (p.1, p.2) (λ says. says)

-- ---- the records weren't read

pub returns-in-Err-read_records-clause-searches : goal.returns-in-Err-read_records-clause-searches
returns-in-Err-read_records-clause-searches g c =
    let read = c.in-Ok.ensures in
    let failed = c.in-Err-read_records.ensures in
    let old = g.D.Disk.medium c.args.disk.now in
    let mid = g.D.Disk.medium c.read_newest.new.disk in
    let new = g.D.Disk.medium c.read_records.new.disk in
    let geometry = c.args.contents.geometry in
    let room = c.requires in
    let leaves = read.reads.leaves in
    let same = leaves.passes.sectors in
    let enough : total_sectors geometry ≤ mid.sectors = omega (arith, room, same) in
    let fault = c.in-Err-read_records.fault in
    rw c.from-in-Err-read_records.ensures (searches_on (geometry.area_sectors + 2)
    geometry.journal_sectors old.sectors old mid new (Err (fault_of_read fault))
    (omega (arith, room)) read.reads read.asks (searches_in_vain geometry.journal_sectors
    geometry.journal_sectors mid new fault (omega arith) failed.reads failed.asks
    (with_enough mid.sectors (total_sectors geometry) enough failed.cause)))

pub returns-in-Err-read_records-clause-few : goal.returns-in-Err-read_records-clause-few
returns-in-Err-read_records-clause-few g c = tt

pub returns-in-Err-read_records-clause-finds : goal.returns-in-Err-read_records-clause-finds
returns-in-Err-read_records-clause-finds g c =
    rw c.from-in-Err-read_records.ensures (λ image shown m config point records last at content.
    let reads = c.in-Err-read_records.ensures.reads in
    let before = stays_shows (g.D.Disk.medium c.read_newest.new.disk)
    (g.D.Disk.medium c.read_records.new.disk) reads.stays image shown in
    let placed = ap (λ (s : Contents). s.geometry) content in
    let found = c.in-Ok.ensures.finds image before m config point records last at placed in
    unread_says (Vec Record Global) (λ read. read.items ≡ records) c.in-Err-read_records.fault
    (c.in-Err-read_records.ensures.scans image shown m config point records last at placed
    (its_version at c.args.contents content c.pages.result c.as_slice.result.now
    c.pages.ensures.value c.as_slice.ensures c.in_ok-machine.machine
    c.in_ok-machine.ensures.accepted c.as_slice-2.result.now
    (c.as_slice-2.ensures ∙ found.2) c.restored_processes_are_the_saved.ensures
    c.in_ok-process.process c.in_ok-process.ensures.restored
    c.version.result c.version.ensures) found.0))

pub returns-in-Err-read_records-clause-shows : goal.returns-in-Err-read_records-clause-shows
returns-in-Err-read_records-clause-shows g c =
    rw c.from-in-Err-read_records.ensures (λ image shown sectors whole.
    let reads = c.in-Err-read_records.ensures.reads in
    let before = stays_shows (g.D.Disk.medium c.read_newest.new.disk)
    (g.D.Disk.medium c.read_records.new.disk) reads.stays image shown in
    records_unread sectors image c.args.contents whole c.pages.result c.as_slice.result.now
    c.pages.ensures.value c.as_slice.ensures c.in_ok-machine.machine
    c.in_ok-machine.ensures.accepted c.in-Ok.newest
    (c.in-Ok.ensures.tells image before) c.as_slice-2.result.now c.as_slice-2.ensures
    c.in_ok-process.process c.in_ok-process.ensures.restored c.version.result c.version.ensures
    c.in-Err-read_records.fault (c.in-Err-read_records.ensures.tells image shown))

pub returns-in-Err-read_records-clause-own : goal.returns-in-Err-read_records-clause-own
returns-in-Err-read_records-clause-own g c =
    rw c.from-in-Err-read_records.ensures (λ says. c.in-Err-read_records.ensures.own
    (says_denied (Vec Record Global) Found c.in-Err-read_records.fault says))

-- ---- all was read

pub returns-in-Ok-read_records-clause-searches : goal.returns-in-Ok-read_records-clause-searches
returns-in-Ok-read_records-clause-searches g c =
    let newest = c.in-Ok.ensures in
    let read = c.in-Ok-read_records.ensures in
    let old = g.D.Disk.medium c.args.disk.now in
    let mid = g.D.Disk.medium c.read_newest.new.disk in
    let new = g.D.Disk.medium c.read_records.new.disk in
    let geometry = c.args.contents.geometry in
    let found : Found = record {
      geometry = geometry;
      generation = c.in-Ok.newest.generation;
      process_image = c.in-Ok.newest.process_image;
      process = c.in_ok-process.process;
      records = c.in-Ok-read_records.records;
    } in
    let leaves = newest.reads.leaves in
    let same = leaves.passes.sectors in
    let room = c.requires in
    let restored = c.in_ok-process.ensures.restored in
    let typed = restored.well_typed in
    searches_on (geometry.area_sectors + 2) geometry.journal_sectors old.sectors old mid new
    (Ok found) (omega (arith, room)) newest.reads newest.asks
    (searched geometry.journal_sectors mid new found (omega (arith, room, same)) read.reads
    read.asks c.in_ok-process.ensures.shows typed.next)

pub returns-in-Ok-read_records-clause-few : goal.returns-in-Ok-read_records-clause-few
returns-in-Ok-read_records-clause-few g c =
    let newest = c.in-Ok.ensures.asks in
    let read = c.in-Ok-read_records.ensures.asks in
    omega (arith, newest, read)

pub returns-in-Ok-read_records-clause-finds : goal.returns-in-Ok-read_records-clause-finds
returns-in-Ok-read_records-clause-finds g c = λ image shown m config point records last at content.
    let reads = c.in-Ok-read_records.ensures.reads in
    let before = stays_shows (g.D.Disk.medium c.read_newest.new.disk)
    (g.D.Disk.medium c.read_records.new.disk) reads.stays image shown in
    let placed = ap (λ (s : Contents). s.geometry) content in
    let found = c.in-Ok.ensures.finds image before m config point records last at placed in
    let version = its_version at c.args.contents content c.pages.result c.as_slice.result.now
    c.pages.ensures.value c.as_slice.ensures c.in_ok-machine.machine
    c.in_ok-machine.ensures.accepted c.as_slice-2.result.now
    (c.as_slice-2.ensures ∙ found.2) c.restored_processes_are_the_saved.ensures
    c.in_ok-process.process c.in_ok-process.ensures.restored
    c.version.result c.version.ensures in
    found_at at c.args.contents content c.pages.result c.as_slice.result.now
    c.pages.ensures.value c.as_slice.ensures c.in_ok-machine.machine
    c.in_ok-machine.ensures.accepted c.as_slice-2.result.now
    (c.as_slice-2.ensures ∙ found.2) c.restored_processes_are_the_saved.ensures
    c.in_ok-process.process c.in_ok-process.ensures.restored
    c.in-Ok.newest.generation found.0 c.in-Ok.newest.process_image
    c.in-Ok-read_records.records
    (c.in-Ok-read_records.ensures.scans image shown m config point records last at placed version
    found.0) c.in_ok-process.ensures.shows

pub returns-in-Ok-read_records-clause-shows : goal.returns-in-Ok-read_records-clause-shows
returns-in-Ok-read_records-clause-shows g c = λ image shown sectors whole.
    let reads = c.in-Ok-read_records.ensures.reads in
    let before = stays_shows (g.D.Disk.medium c.read_newest.new.disk)
    (g.D.Disk.medium c.read_records.new.disk) reads.stays image shown in
    all_found sectors image c.args.contents whole c.pages.result c.as_slice.result.now
    c.pages.ensures.value c.as_slice.ensures c.in_ok-machine.machine
    c.in_ok-machine.ensures.accepted c.in-Ok.newest
    (c.in-Ok.ensures.tells image before) c.as_slice-2.result.now c.as_slice-2.ensures
    c.in_ok-process.process c.in_ok-process.ensures.restored c.version.result c.version.ensures
    c.in-Ok-read_records.records (c.in-Ok-read_records.ensures.tells image shown)
