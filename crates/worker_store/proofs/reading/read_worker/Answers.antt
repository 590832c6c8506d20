use Rattle.worker_store.proofs.ReadLemmas.{contents_ok, contents_failed}
use Rattle.disk_layout.specs.declared.reading.contents.Contents.{Contents}
use Rattle.worker_store.proofs.ReadCauseLemmas.{layout_cause}
use Rattle.worker_store.proofs.reading.read_worker.Goals as goal

pub returns-in-Ok-clause-gives : goal.returns-in-Ok-clause-gives
returns-in-Ok-clause-gives g c disk shown m config point records last at room =
    let was = g.D.Disk.medium c.args.disk.now in
    contents_ok was.sectors disk m config point records last at room c.in-Ok.contents
    (c.in-Ok.ensures.gives disk shown)

pub returns-in-Err-clause-gives : goal.returns-in-Err-clause-gives
returns-in-Err-clause-gives g c disk shown =
    let was = g.D.Disk.medium c.args.disk.now in
    contents_failed was.sectors disk c.in-Err.fault c.from.result c.from.ensures
    (c.in-Err.ensures.gives disk shown)

pub returns-in-Err-clause-cause : goal.returns-in-Err-clause-cause
returns-in-Err-clause-cause g c =
    layout_cause Contents (g.D.Disk.medium c.args.disk.now)
    (g.D.Disk.medium c.read_contents.new.disk) c.in-Err.fault c.from.result c.from.ensures
    c.in-Err.ensures.cause
