use Rattle.worker.proofs.ActLemmas.{none_is_done, one_more_is_done, one_fails, all_are_done}
use Rattle.worker.proofs.story.living.do_all.Goals as goal

pub loop-act-init : goal.loop-act-init
loop-act-init g c = record {
  done = none_is_done g.D.Disk.medium g.S.Source.gives g.O.Outlet.takes _ _ _ _ _;
  room = c.requires;
}

pub loop-act-preserved : goal.loop-act-preserved
loop-act-preserved g c = record {
  done = one_more_is_done g.D.Disk.medium g.S.Source.gives g.O.Outlet.takes _ _ _ _ _ _ _
      c.loop-act-test.true _ _ _ _ c.loop-act.invariant.done _ _ _ _ c.in-Ok.ensures.does;
  room = c.in-Ok.ensures.room;
}

pub returns-in-Err : goal.returns-in-Err
returns-in-Err g c =
    one_fails g.D.Disk.medium g.S.Source.gives g.O.Outlet.takes _ _ _ _ _ _ _
    c.loop-act-test.true _ _ _ _ c.loop-act.invariant.done c.do_one.new.worker c.do_one.new.disk
    c.do_one.new.source c.do_one.new.outlet c.in-Err.fault c.in-Err.ensures.does

pub returns : goal.returns
returns g c =
    all_are_done g.D.Disk.medium g.S.Source.gives g.O.Outlet.takes _ _ _ _ _ _
    c.loop-act-test.false _ _ _ _ c.loop-act.invariant.done
