use Rattle.std.proofs.Common.{ap, inl, refl}
use Rattle.std.specs.Io.Buffered.{reader_remaining}
use Rattle.disk_commands.proofs.ServedLemmas.{job_served}
use Rattle.disk_commands.proofs.on_disk.running.run_job.Goals as goal

pub returns-in-Ok : goal.returns-in-Ok
returns-in-Ok g c =
    let source = c.new-source.result in
    let lines = c.args.system.lines in
    job_served (g.R.WatchedPaths.has_found c.args.system.files.now) g.D.Disk.medium
    g.O.Outlet.takes c.args.job
    (reader_remaining g.I.Read.remaining lines.reader)
    (reader_remaining g.I.Read.remaining source.requests.reader.reader)
    lines.has_failed source.requests.reader.has_failed source.outside _ _ _ _ _ _ _ _
    c.new-source.ensures.outside
    (ap (λ r. reader_remaining g.I.Read.remaining r.reader) c.new-source.ensures.reader)
    (ap (λ r. r.has_failed) c.new-source.ensures.reader)
    c.in-Ok.ensures.quiet c.serve_to_end-status.ensures

pub returns-in-Err : goal.returns-in-Err
returns-in-Err g c = inl (c.in-Err.ensures.said, refl, refl)
