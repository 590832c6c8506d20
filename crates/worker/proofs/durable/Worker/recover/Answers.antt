use Rattle.std.proofs.Common.{inl, arith}
use Rattle.worker.proofs.RecoveryCallLemmas.{revival_calls, revival_room}
use Rattle.worker.proofs.RecoveryLemmas.Results.{failed_sync_carries, not_found_carries}
use Rattle.worker.proofs.RecoveryLemmas.Results.{is_found_carries, is_just_synced, sync_faulted}
use Rattle.worker.proofs.RecoveryLemmas.Causes.{failed_sync_cause, unfound_cause, revival_cause}
use Rattle.worker.proofs.AnswerLemmas.{failed_sync_recovers, not_found_recovers, is_found_recovers}
use Rattle.worker.proofs.OutletLemmas.{none_told, disk_is_other, found_is_other, revival_heeds}
use Rattle.worker.proofs.RecoveryLemmas.Counts.{revival_counts}
use Rattle.worker.proofs.durable.Worker.recover.Goals as goal

pub returns-in-Err : goal.returns-in-Err
returns-in-Err g c =
    let old = g.D.Disk.medium c.args.disk.now in
    let new = g.D.Disk.medium c.sync.new.self in
    let syncs = c.in-Err.ensures in
    record {
      recovers = failed_sync_recovers g.D.Disk.medium g.O.Outlet.takes c.args.disk.now
          c.sync.new.self c.args.outlet.now c.in-Err.fault syncs c.from.result c.from.ensures;
      carries = failed_sync_carries g.D.Disk.medium g.O.Outlet.takes c.args.disk.now
          c.sync.new.self c.args.outlet.now c.in-Err.fault syncs c.from.result c.from.ensures;
      room = tt;
      on_any_disk = failed_sync_cause old new c.in-Err.fault c.from.result c.from.ensures
          (sync_faulted old new c.in-Err.fault syncs);
      asks = omega (arith, syncs.counted);
      heeds = inl (
        none_told g.O.Outlet.takes c.args.outlet.now,
        disk_is_other c.in-Err.fault c.from.result c.from.ensures,
      );
      counts = inl syncs.counts;
    }

pub returns-in-Err-find : goal.returns-in-Err-find
returns-in-Err-find g c =
    let old = g.D.Disk.medium c.args.disk.now in
    let sync = g.D.Disk.medium c.sync.new.self in
    let mid = g.D.Disk.medium c.find.new.disk in
    let syncs = c.in_default.ensures in
    let passes = c.in_default.ensures.passes in
    let found = c.in-Err-find.ensures in
    let just_synced = is_just_synced old sync mid c.in_default.field-0 syncs found.searches.reads
    found.searches.asks in
    record {
      recovers = not_found_recovers g.D.Disk.medium g.O.Outlet.takes c.args.disk.now
          c.sync.new.self c.find.new.disk c.in_default.field-0 syncs found.searches.reads
          found.searches.asks c.args.outlet.now c.in-Err-find.fault found.finds found.marks
          found.shows;
      carries = not_found_carries g.D.Disk.medium g.O.Outlet.takes c.args.disk.now
          c.sync.new.self c.find.new.disk c.in_default.field-0 syncs found.searches.reads
          found.searches.asks c.args.outlet.now c.in-Err-find.fault found.finds found.marks
          found.searches.cause;
      room = tt;
      on_any_disk = unfound_cause old sync mid passes.faults c.in-Err-find.fault
          found.searches.cause;
      asks = omega (arith, just_synced.counted);
      heeds = inl (
        none_told g.O.Outlet.takes c.args.outlet.now,
        found_is_other sync mid c.in-Err-find.fault found.searches.cause,
      );
      counts = inl just_synced.counts;
    }

pub returns-in-Ok : goal.returns-in-Ok
returns-in-Ok g c =
    let old = g.D.Disk.medium c.args.disk.now in
    let sync = g.D.Disk.medium c.sync.new.self in
    let mid = g.D.Disk.medium c.find.new.disk in
    let syncs = c.in_default.ensures in
    let found = c.in-Ok.ensures in
    let just_synced = is_just_synced old sync mid c.in_default.field-0 syncs found.searches.reads
    found.searches.asks in
    record {
      recovers = is_found_recovers g.D.Disk.medium g.O.Outlet.takes c.args.disk.now
          c.sync.new.self c.find.new.disk c.in_default.field-0 syncs found.searches.reads
          found.searches.asks c.args.outlet.now c.revive.new.disk c.revive.new.outlet
          c.process_images_fit_areas.ensures c.in-Ok.found found.finds found.marks found.few
          found.shows c.revive.result c.revive.ensures;
      carries = is_found_carries g.D.Disk.medium g.O.Outlet.takes c.args.disk.now
          c.sync.new.self c.find.new.disk c.in_default.field-0 syncs found.searches.reads
          found.searches.asks c.args.outlet.now c.revive.new.disk c.revive.new.outlet
          c.process_images_fit_areas.ensures c.in-Ok.found found.finds found.marks found.few
          c.revive.result c.revive.ensures;
      room = revival_room g.D.Disk.medium g.O.Outlet.takes c.in-Ok.found c.revive.result
          c.find.new.disk c.revive.new.disk c.args.outlet.now c.revive.new.outlet
          found.searches.room c.revive.ensures;
      on_any_disk = revival_cause g.D.Disk.medium g.O.Outlet.takes c.args.disk.now
          c.find.new.disk c.revive.new.disk just_synced c.in-Ok.found found.searches.room
          c.args.outlet.now c.revive.new.outlet c.revive.result c.revive.ensures;
      asks = let passes = just_synced.leaves.passes in
          omega (
            arith,
            just_synced.counted,
            passes.sectors,
            revival_calls g.D.Disk.medium g.O.Outlet.takes c.in-Ok.found c.revive.result
                c.find.new.disk c.revive.new.disk c.args.outlet.now c.revive.new.outlet
                c.revive.ensures,
          );
      heeds = revival_heeds g.D.Disk.medium g.O.Outlet.takes c.in-Ok.found found.searches.shows
          c.find.new.disk c.revive.new.disk c.args.outlet.now c.revive.new.outlet
          c.revive.result c.revive.ensures;
      counts = revival_counts g.D.Disk.medium g.O.Outlet.takes c.args.disk.now c.find.new.disk
          c.revive.new.disk just_synced c.in-Ok.found found.searches.room c.args.outlet.now
          c.revive.new.outlet c.revive.result c.revive.ensures;
    }
