use Rattle.std.proofs.Common.{Ok, Err}
use Rattle.disk_commands.proofs.on_disk.succession.take_over.Goals as goal

pub returns-in-Ok : goal.returns-in-Ok
returns-in-Ok g c = record {
  left = Ok c.in-Ok.handover;
  reads = c.in-Ok.ensures;
  takes = c.fitted.ensures;
}

pub returns-in-Err : goal.returns-in-Err
returns-in-Err g c = record {
  left = Err c.in-Err.fault;
  reads = c.in-Err.ensures;
  takes = c.report_unleft.ensures;
}
