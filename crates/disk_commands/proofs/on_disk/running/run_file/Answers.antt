use Rattle.std.proofs.Common.{◌∙◌, ap, refl}
use Rattle.command_words.specs.rules.Printers.{read_along}
use Rattle.disk_commands.specs.rules.ServedFiles.{unopened}
use Rattle.disk_commands.proofs.ServedLemmas.{runs_opened, runs_quietly, runs_seedless}
use Rattle.disk_commands.proofs.on_disk.running.run_file.Goals as goal

pub returns-in-Err : goal.returns-in-Err
returns-in-Err g c =
    runs_seedless _ g.O.Outlet.takes _ _ _ _ _ _ _ c.in-Err.ensures.said

pub returns-in-Ok-open_disk : goal.returns-in-Ok-open_disk
returns-in-Ok-open_disk g c =
    let found = c.in-Ok-open_disk in
    runs_opened _ g.O.Outlet.takes _ _ _ found.disk c.run_job-status.new.disk
    _ _ _ _ _ _ c.job_of-job.result
    (c.job_of-job.ensures _ c.in-Ok.ensures.spelled) found.ensures.opened c.close.ensures
    (c.read_along.ensures ∙ ap (read_along c.args.order.now.is_verbose)
    (found.ensures.quiet ∙ c.in-Ok.ensures.quiet)) c.run_job-status.ensures

pub returns-in-Err-open_disk : goal.returns-in-Err-open_disk
returns-in-Err-open_disk g c =
    runs_quietly _ g.O.Outlet.takes _ _ _ _ _ _ _ _ _ c.in-Ok.ensures.quiet
    (unopened c.in-Err-open_disk.ensures.said refl)
