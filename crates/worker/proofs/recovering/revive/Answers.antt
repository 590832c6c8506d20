use Rattle.worker.proofs.RecoveryLemmas.NextPoint.{is_replayed, revives_found, stops_found}
use Rattle.worker.proofs.recovering.revive.Goals as goal

pub returns-in-Ok : goal.returns-in-Ok
returns-in-Ok g c =
    let done = c.in-Ok.ensures in
    revives_found g.D.Disk.medium g.O.Outlet.takes c.args.found c.args.disk.now c.args.outlet.now
    c.replay.new.outlet c.in-Ok.process c.in-Ok.replayed c.open_again.new.disk
    (is_replayed g.O.Outlet.takes c.args.found c.in-Ok.process c.in-Ok.replayed c.args.outlet.now
    c.replay.new.outlet c.as_slice.result.now c.as_slice.ensures.value done.replayed done.counted
    done.guest done.shows) c.open_again.result c.open_again.ensures

pub returns : goal.returns
returns g c =
    let stopped = c.in-Err.ensures in
    stops_found g.D.Disk.medium g.O.Outlet.takes c.args.found c.args.disk.now c.args.outlet.now
    c.replay.new.outlet c.as_slice.result.now c.in-Err.fault c.from.result
    c.as_slice.ensures.value c.from.ensures stopped.stopped
