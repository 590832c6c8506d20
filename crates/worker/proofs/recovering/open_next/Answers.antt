use Rattle.std.proofs.Common.{arith}
use Rattle.worker.proofs.RecoveryLemmas.NextPoint.{none_next, opens_next, opens_none}
use Rattle.worker.proofs.recovering.open_next.Goals as goal

pub returns-in_default : goal.returns-in_default
returns-in_default g c =
    none_next g.D.Disk.medium c.args.last.geometry c.args.last.generation c.args.process.now
    c.args.disk.now (let late = c.in_default.ensures in omega (arith, late))

pub returns-in-Ok : goal.returns-in-Ok
returns-in-Ok g c =
    let next = c.in-Some.ensures in
    let done = c.in-Ok.ensures.reopens in
    opens_next g.D.Disk.medium c.args.last.geometry c.args.last.generation c.args.process.now
    c.args.disk.now c.in-Some.next next.1 c.reopen.new.disk done.point_or_next done.passes
    done.counts done.some c.requires done.asks c.in-Ok.store done.durable done.begun done.numbered
    done.placed done.calls

pub returns-in-Err : goal.returns-in-Err
returns-in-Err g c =
    let next = c.in-Some.ensures in
    let failed = c.in-Err.ensures.reopens in
    opens_none g.D.Disk.medium c.args.last.geometry c.args.last.generation c.args.process.now
    c.args.disk.now c.in-Some.next next.1 c.reopen.new.disk failed.point_or_next failed.passes
    failed.counts failed.some c.requires failed.asks c.in-Err.fault c.from.result failed.cause
    c.from.ensures
