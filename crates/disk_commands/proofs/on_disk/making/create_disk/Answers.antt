use Rattle.std.proofs.Common.{inl, inr, refl}
use Rattle.disk_commands.proofs.on_disk.making.create_disk.Goals as goal

pub returns-in-Ok : goal.returns-in-Ok
returns-in-Ok g c =
    inr (c.in-Ok.prepared, c.in-Ok.ensures.prepared, c.make_ordered-status.ensures)

pub returns-in-Err : goal.returns-in-Err
returns-in-Err g c =
    inl (
      c.in-Err.fault,
      c.in-Err.ensures.refused,
      record {
        range = c.report_unprepared.ensures.range;
        entry = c.report_unprepared.ensures.entry;
        limit = c.report_unprepared.ensures.limit;
        more = c.report_unprepared.ensures.more;
        status = c.report_unprepared.ensures.status;
      },
      refl,
    )
