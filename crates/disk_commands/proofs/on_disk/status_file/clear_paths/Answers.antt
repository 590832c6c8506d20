use Rattle.disk_commands.proofs.StatusFileLemmas.{beside_said}
use Rattle.disk_commands.proofs.on_disk.status_file.clear_paths.Goals as goal

pub returns-clause-said : goal.returns-clause-said
returns-clause-said g c =
    beside_said (g.R.WatchedPaths.has_found c.args.files.now) c.args.path.now c.args.new.now
    c.requires.beside c.args.err.now c.look_at_free.new.err c.clear_beside.new.err
    c.in-Ok.ensures.quiet c.clear_beside.result c.clear_beside.ensures.said
