use Rattle.worker.specs.rules.Scenes.{scene}
use Rattle.disk_commands.specs.Livings.{steps_left}
use Rattle.disk_commands.proofs.UpgradingLemmas.{HasComeTo}
use Rattle.disk_commands.proofs.on_disk.upgrading.come_up.Given as goal

-- so many slices were taken
abbrev pub invariant-loop-how : goal.invariant-loop-how
invariant-loop-how g l =
    HasComeTo g.D.Disk.medium g.S.Source.gives g.O.Outlet.takes 100000
    (scene l.fn.worker l.fn.disk l.fn.source l.fn.outlet)
    (scene l.worker l.disk l.source l.outlet)

abbrev pub decreases-loop-how : goal.decreases-loop-how
decreases-loop-how g l = steps_left l.worker
