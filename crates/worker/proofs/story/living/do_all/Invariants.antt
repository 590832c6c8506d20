use Rattle.std.proofs.Common.{◌≤◌, drop}
use Rattle.disk_layout.specs.rules.Places.{total_sectors}
use Rattle.worker.proofs.ActLemmas.{HasDone}
use Rattle.worker.proofs.story.living.do_all.Given as goal

abbrev pub invariant-loop-act : goal.invariant-loop-act
invariant-loop-act g l = record {
  done : HasDone g.D.Disk.medium g.S.Source.gives g.O.Outlet.takes l.acts (drop l.act-index l.acts)
      l.fn.worker l.worker l.fn.disk l.disk l.fn.source l.source l.fn.outlet l.outlet;
  room : total_sectors l.worker.store.geometry ≤ (g.D.Disk.medium l.disk).sectors;
}
