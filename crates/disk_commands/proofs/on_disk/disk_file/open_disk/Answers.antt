use Rattle.disk_commands.proofs.FileLemmas.{opened_back, opened_plainly, unrewritten}
use Rattle.disk_commands.proofs.on_disk.disk_file.open_disk.Goals as goal

pub returns-then-not-rewrites-clause-opened : goal.returns-then-not-rewrites-clause-opened
returns-then-not-rewrites-clause-opened g c =
    opened_plainly g.F.DiskFile.known (g.R.DiskFiles.known c.args.files.now) c.args.rewrites
    c.args.path.now c.in-Ok.disk c.if-not-rewrites.true c.in-Ok.ensures.opened

pub returns-clause-opened : goal.returns-clause-opened
returns-clause-opened g c =
    opened_back g.F.DiskFile.known (g.R.DiskFiles.known c.args.files.now) c.args.rewrites
    c.args.path.now c.in-Ok.disk c.if-not-rewrites.false c.in-Ok.ensures.opened
    c.written_back.result c.written_back.ensures.written

pub returns-clause-said : goal.returns-clause-said
returns-clause-said g c =
    unrewritten g.F.DiskFile.known (g.R.DiskFiles.known c.args.files.now) c.args.rewrites
    c.args.path.now c.in-Ok.disk c.if-not-rewrites.false c.in-Ok.ensures.opened c.args.err.now
    c.written_back.new.err c.written_back.result c.written_back.ensures.failed
    c.written_back.ensures.said
