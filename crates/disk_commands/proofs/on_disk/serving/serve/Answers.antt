use Rattle.std.specs.Int.NonZero.{non_zero_u64_get}
use Rattle.std.proofs.Common.{refl}
use Rattle.disk_commands.specs.rules.ServedOnDisk.{disk_job, run_start, run_end}
use Rattle.disk_commands.proofs.OnDiskLemmas.{serves_none, serves_gone}
use Rattle.disk_commands.proofs.UnwrittenLemmas.{heeds_refusal}
use Rattle.disk_commands.proofs.WatchingLemmas.{watches_fault}
use Rattle.disk_commands.proofs.on_disk.serving.serve.Goals as goal

pub returns-in-Ok-clause-serves : goal.returns-in-Ok-clause-serves
returns-in-Ok-clause-serves g c =
    let served = c.serve_open-status in
    let runs = served.ensures.serves in
    serves_gone g.D.Disk.medium g.O.Outlet.takes
    (run_start (disk_job (non_zero_u64_get c.args.drive.pace.fuel)
    (non_zero_u64_get c.args.drive.pace.every) (non_zero_u64_get c.args.drive.pace.batch)
    (g.R.LineReader.unread c.args.source.now.requests.reader) c.args.source.now.outside
    (g.R.LineReader.has_failed c.args.source.now.requests.reader))
    c.args.disk.now c.args.outlet.now c.args.err.now)
    (run_end served.new.disk served.new.outlet served.new.err
    (g.R.LineReader.has_failed served.new.source.requests.reader)) served.result
    c.in-Ok.worker c.recover.new.disk c.recover.new.outlet runs.0 c.in-Ok.ensures
    c.in-Ok.ensures.heeds runs.4 runs.2 runs.3 runs.7 runs.8 runs.1 runs.5 runs.6 runs.9

pub returns-in-Ok-clause-refusal : goal.returns-in-Ok-clause-refusal
returns-in-Ok-clause-refusal g c =
    heeds_refusal g.D.Disk.medium g.O.Outlet.takes _ _ _ (returns-in-Ok-clause-serves g c)

pub returns-in-Err-clause-serves : goal.returns-in-Err-clause-serves
returns-in-Err-clause-serves g c =
    serves_none g.D.Disk.medium g.O.Outlet.takes
    (run_start (disk_job (non_zero_u64_get c.args.drive.pace.fuel)
    (non_zero_u64_get c.args.drive.pace.every) (non_zero_u64_get c.args.drive.pace.batch)
    (g.R.LineReader.unread c.args.source.now.requests.reader) c.args.source.now.outside
    (g.R.LineReader.has_failed c.args.source.now.requests.reader))
    c.args.disk.now c.args.outlet.now c.args.err.now)
    (run_end c.recover.new.disk c.recover.new.outlet c.say_life_fault.new.err
    (g.R.LineReader.has_failed c.args.source.now.requests.reader)) c.say_life_fault.result
    c.in-Err.fault c.from.result refl c.in-Err.ensures
    c.in-Err.ensures.heeds c.from.ensures c.say_life_fault.ensures

pub returns-in-Err-clause-refusal : goal.returns-in-Err-clause-refusal
returns-in-Err-clause-refusal g c =
    heeds_refusal g.D.Disk.medium g.O.Outlet.takes _ _ _ (returns-in-Err-clause-serves g c)

pub returns-in-Err-clause-watched : goal.returns-in-Err-clause-watched
returns-in-Err-clause-watched g c =
    watches_fault (g.T.Watcher.is_notified c.args.drive.watcher.now) c.say_life_fault.result
    c.say_life_fault.new.err c.from.result c.args.err.now c.say_life_fault.ensures
