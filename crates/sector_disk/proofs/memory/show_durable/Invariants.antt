use Rattle.std.proofs.Common.{◌≡◌, length, drop}
use Rattle.sector_disk.specs.laws.Beside.{AreSameBeside}
use Rattle.sector_disk.proofs.memory.show_durable.Given as goal

abbrev pub invariant-loop-write : goal.invariant-loop-write
invariant-loop-write l = (length l.shown ≡ length l.durable)
    × AreSameBeside (drop l.write-index l.writes) l.shown l.durable
