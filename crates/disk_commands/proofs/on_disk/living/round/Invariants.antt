use Rattle.std.proofs.Common.{◌-◌}
use Rattle.std.specs.Int.NonZero.{non_zero_u64_get}
use Rattle.worker.specs.rules.Scenes.{scene}
use Rattle.disk_commands.specs.rules.Paces.{act_at}
use Rattle.disk_commands.proofs.LivingLemmas.{IsWithin}
use Rattle.disk_commands.proofs.on_disk.living.round.Given as goal

-- so many slices or batches were taken of those that come between two checkpoints
abbrev pub invariant-loop-now : goal.invariant-loop-now
invariant-loop-now g l =
    IsWithin g.D.Disk.medium g.S.Source.gives g.O.Outlet.takes
    (act_at (non_zero_u64_get l.fn.pace.fuel) (non_zero_u64_get l.fn.pace.batch)) l.every l.taken
    (scene l.fn.worker l.fn.disk l.fn.source l.fn.outlet)
    (scene l.worker l.disk l.source l.outlet)

abbrev pub decreases-loop-now : goal.decreases-loop-now
decreases-loop-now g l = l.every - l.taken
