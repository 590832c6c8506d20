use Rattle.std.proofs.Common.{◌<◌, inl, sym, ◌∙◌, arith}
use Rattle.disk_layout.specs.rules.Places.{total_sectors}
use Rattle.journal.proofs.HeldLemmas.{records_held}
use Rattle.journal.proofs.LaterLemmas.{some_are_read}
use Rattle.journal.proofs.journal.Journal.scan.Goals as goal

-- ---- on a disk with too few sectors

pub returns-in-Err-clause-cause : goal.returns-in-Err-clause-cause
returns-in-Err-clause-cause g c = λ fault same.
    let few : (g.D.Disk.medium c.args.disk.now).sectors < total_sectors c.args.geometry.now =
    let f = c.in-Err.ensures.too_few.1 in let n = c.total_sectors.ensures in omega (arith, f, n) in
    inl few

-- ---- what it holds

pub returns-in-Ok-clause-scans : goal.returns-in-Ok-clause-scans
returns-in-Ok-clause-scans g c = λ image shown.
    records_held c.args.geometry.now c.args.version c.args.generation image
    c.in-Ok.records.items c.as_slice.result.now
    (c.in_ok-payloads.ensures.payloads image shown ∙ sym c.as_slice.ensures.value)
    c.in-Ok.ensures.value

pub returns-clause-memory : goal.returns-clause-memory
returns-clause-memory g c = λ _ image shown.
    some_are_read c.args.geometry.now c.args.generation image c.as_slice.result.now
    (c.in_ok-payloads.ensures.payloads image shown ∙ sym c.as_slice.ensures.value)
    c.in-Err-records_from.ensures.memory
