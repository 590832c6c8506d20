use Rattle.std.proofs.Common.{arith}
use Rattle.disk_commands.proofs.on_disk.creation.create_on.Goals as goal

pub sectors_of-requires : goal.sectors_of-requires
sectors_of-requires g c = omega (arith, c.in-Ok.ensures.created.accepted.limits.size)
