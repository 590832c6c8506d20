use Rattle.sector_disk.proofs.Moments.{stays_shows}
use Rattle.disk_layout.proofs.ReadLemmas.{reads_then}
use Rattle.worker.proofs.inspecting.look_into.Goals as goal

pub returns-in-Ok-clause-reads : goal.returns-in-Ok-clause-reads
returns-in-Ok-clause-reads g c =
    reads_then (g.D.Disk.medium c.args.disk.now) (g.D.Disk.medium c.read_worker.new.disk)
    (g.D.Disk.medium c.look_behind.new.disk) c.in-Ok.ensures.reads c.look_behind.ensures.reads

pub returns-in-Ok-clause-tells : goal.returns-in-Ok-clause-tells
returns-in-Ok-clause-tells g c = λ image shown.
    let was = g.D.Disk.medium c.args.disk.now in
    let reads = c.look_behind.ensures.reads in
    let before = stays_shows (g.D.Disk.medium c.read_worker.new.disk)
    (g.D.Disk.medium c.look_behind.new.disk) reads.stays image shown in
    c.look_behind.ensures.tells image shown was.sectors (c.in-Ok.ensures.tells image before)
