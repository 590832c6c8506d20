use Rattle.std.proofs.Common.{◌≡◌, take}
use Rattle.sector_disk.specs.rules.Memory.{memory_state_of, shown_by}
use Rattle.worker.proofs.story.starting.sectors_of.Given as goal

-- the first sectors were read, and the disk stays as it was
abbrev pub invariant-loop-place : goal.invariant-loop-place
invariant-loop-place l = (l.disk ≡ l.fn.disk)
    × (l.sectors.items ≡ take l.place (shown_by (memory_state_of l.fn.disk)))
