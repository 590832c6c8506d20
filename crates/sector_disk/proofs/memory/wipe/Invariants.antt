use Rattle.std.proofs.Common.{◌≡◌, ◌-◌, length}
use Rattle.sector_disk.specs.laws.Beside.{AreZerosUpTo}
use Rattle.sector_disk.proofs.memory.wipe.Given as goal

abbrev pub invariant-loop-k : goal.invariant-loop-k
invariant-loop-k l = (length l.sectors.items ≡ length l.fn.sectors.items)
    × AreZerosUpTo l.k l.sectors.items

abbrev pub decreases-loop-k : goal.decreases-loop-k
decreases-loop-k l = length l.sectors.items - l.k
