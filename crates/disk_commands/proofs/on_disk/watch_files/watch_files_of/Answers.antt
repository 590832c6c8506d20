use Rattle.std.proofs.Common.{subst}
use Rattle.std.specs.Prelude.{IfSome}
use Rattle.disk_commands.specs.rules.StatusFiles.{SaysUnwatched}
use Rattle.disk_commands.proofs.StatusFileLemmas.{metrics_untold, status_untold}
use Rattle.disk_commands.proofs.on_disk.watch_files.watch_files_of.Goals as goal

pub returns-in-Err-clause-said : goal.returns-in-Err-clause-said
returns-in-Err-clause-said g c =
    status_untold (g.R.WatchedPaths.has_found c.args.files.now) c.args.err.now
    c.status_file_of.new.err c.in-Err.code c.args.paths.status c.args.paths.metrics
    c.in-Err.ensures.asked c.in-Err.ensures.said

pub returns-clause-said : goal.returns-clause-said
returns-clause-said g c =
    let failed = c.in-Err-metrics_file_of in
    metrics_untold (g.R.WatchedPaths.has_found c.args.files.now) c.args.err.now
    c.metrics_file_of.new.err failed.code c.args.paths.status c.args.paths.metrics
    failed.ensures.asked
    (subst (λ err. IfSome c.args.paths.metrics (λ text.
    SaysUnwatched (g.R.WatchedPaths.has_found c.args.files.now) text.now err failed.code
    c.metrics_file_of.new.err)) c.in-Ok.ensures.quiet failed.ensures.said)
