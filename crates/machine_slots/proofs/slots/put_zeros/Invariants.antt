use Rattle.std.proofs.Common.{◌≡◌, replicate, take}
use Rattle.machine_slots.proofs.slots.put_zeros.Given as goal

abbrev pub invariant-loop-place : goal.invariant-loop-place
invariant-loop-place l = take l.place l.words ≡ replicate l.place 0
