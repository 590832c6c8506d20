use Rattle.std.proofs.Common.{◌≡◌, ◌<◌, ◌≤◌, ◌∙◌, ap, inl, inr, ⊎_elim, arith}
use Rattle.std.proofs.lemmas.Bool.{cases_lt}
use Rattle.std.specs.Prelude.{Result, Err}
use Rattle.sector_disk.specs.declared.fault.DiskFault.TheVariants.{Range}
use Rattle.disk_layout.specs.rules.Places.{total_sectors}
use Rattle.disk_layout.specs.declared.fault.LayoutFault.TheVariants as layout
use Rattle.journal.specs.declared.fault.JournalFault.{JournalFault}
use Rattle.journal.specs.declared.fault.JournalFault.TheVariants as journal
use Rattle.journal.specs.declared.scanned.ScannedJournal.{ScannedJournal}
use Rattle.worker_store.specs.rules.ReadFaults.{read_of_journal}
use Rattle.worker_store.proofs.ReadCauseLemmas.{journal_cause}
use Rattle.worker_store.proofs.ScanLemmas.{judged_scan, unscanned, not_of_layout, refused_later}
use Rattle.worker_store.proofs.ScanLemmas.{reads_records}
use Rattle.worker_store.proofs.reading.read_records.Goals as goal

pub returns-in-Ok-clause-tells : goal.returns-in-Ok-clause-tells
returns-in-Ok-clause-tells g c image shown =
    let scanned = c.in-Ok.ensures in
    judged_scan c.args.geometry.now c.args.version c.args.generation image c.in-Ok.scanned
    (scanned.scans image shown) (scanned.later image shown) c.judge_scan.result
    c.judge_scan.ensures

pub returns-in-Err-clause-tells : goal.returns-in-Err-clause-tells
returns-in-Err-clause-tells g c image shown =
    let failed = c.in-Err.ensures in
    unscanned c.args.geometry.now c.args.version c.args.generation image c.in-Err.fault
    c.from.result c.from.ensures failed.which_fault
    (λ same. failed.memory (ap (λ (f : JournalFault).
    (let r : Result ScannedJournal JournalFault = Err f in r)) same) image shown)

-- ---- where a savepoint is

pub returns-in-Ok-clause-scans : goal.returns-in-Ok-clause-scans
returns-in-Ok-clause-scans g c image shown =
    reads_records c.args.geometry.now c.args.version c.args.generation image c.judge_scan.result
    (returns-in-Ok-clause-tells g c image shown)

pub returns-in-Err-clause-scans : goal.returns-in-Err-clause-scans
returns-in-Err-clause-scans g c image shown =
    reads_records c.args.geometry.now c.args.version c.args.generation image (Err c.from.result)
    (returns-in-Err-clause-tells g c image shown)

-- ---- no other sector is read

pub returns-in-Ok-clause-once : goal.returns-in-Ok-clause-once
returns-in-Ok-clause-once g c why same =
    let later = refused_later c.in-Ok.scanned c.judge_scan.result why c.judge_scan.ensures same in
    (later.0, c.in-Ok.ensures.once later.1)

pub returns-in-Err-clause-once : goal.returns-in-Err-clause-once
returns-in-Err-clause-once g c why same =
    absurd (not_of_layout c.in-Err.fault c.from.result (layout.Damaged why) c.from.ensures same)

-- ---- when an error comes

pub returns-in-Err-clause-cause : goal.returns-in-Err-clause-cause
returns-in-Err-clause-cause g c =
    let failed = c.in-Err.ensures in
    let old = g.D.Disk.medium c.args.disk.now in
    let total = total_sectors c.args.geometry.now in
    ⊎_elim (λ (few : old.sectors < total). inl few)
    (λ (enough : total ≤ old.sectors).
    inr (journal_cause ScannedJournal old (g.D.Disk.medium c.scan.new.disk) c.in-Err.fault
    c.from.result c.from.ensures failed.which_fault
    (λ fault is. ⊎_elim (λ (few : old.sectors < total). absurd (omega (arith, few, enough)))
    (λ failure. failure) (failed.cause fault is))))
    (cases_lt old.sectors total)

-- ---- on a disk with too few sectors

pub returns-in-Ok-clause-too_few : goal.returns-in-Ok-clause-too_few
returns-in-Ok-clause-too_few g c few = let no = (c.in-Ok.ensures.too_few few).1 in absurd (cc)

pub returns-in-Err-clause-too_few : goal.returns-in-Err-clause-too_few
returns-in-Err-clause-too_few g c few =
    let small = c.in-Err.ensures.too_few few in
    let same = small.1 in
    let named : c.in-Err.fault ≡ journal.Disk Range = cc in
    (small.0, ap Err (c.from.ensures ∙ ap read_of_journal named))
