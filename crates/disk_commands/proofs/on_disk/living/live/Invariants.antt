use Rattle.std.specs.Int.NonZero.{non_zero_u64_get}
use Rattle.worker.specs.rules.Scenes.{scene}
use Rattle.disk_commands.specs.Livings.{steps_left}
use Rattle.disk_commands.specs.rules.Paces.{act_at}
use Rattle.disk_commands.proofs.LivingLemmas.{SoFar}
use Rattle.disk_commands.proofs.on_disk.living.live.Given as goal

-- some rounds were done
abbrev pub invariant-loop-how : goal.invariant-loop-how
invariant-loop-how g l =
    SoFar g.D.Disk.medium g.S.Source.gives g.O.Outlet.takes
    (act_at (non_zero_u64_get l.fn.pace.fuel) (non_zero_u64_get l.fn.pace.batch))
    (non_zero_u64_get l.fn.pace.every) (scene l.fn.worker l.fn.disk l.fn.source l.fn.outlet)
    (scene l.worker l.disk l.source l.outlet)

abbrev pub decreases-loop-how : goal.decreases-loop-how
decreases-loop-how g l = steps_left l.worker
