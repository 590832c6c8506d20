use Rattle.std.proofs.Common.{length, ◌-◌, ◌≡◌, ◌≤◌, replicate, take}
use Rattle.guest_memory.proofs.memory.fill_in_parts.Given as goal

abbrev pub invariant-loop-done : goal.invariant-loop-done
invariant-loop-done l =
    (l.done ≤ length l.bytes) × (take l.done l.bytes ≡ replicate l.done l.byte)

abbrev pub decreases-loop-done : goal.decreases-loop-done
decreases-loop-done l = length l.initial.bytes - l.done
