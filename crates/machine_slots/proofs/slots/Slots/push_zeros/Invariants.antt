use Rattle.std.proofs.Common.{◌≡◌, ◌++◌, replicate}
use Rattle.machine_slots.proofs.slots.Slots.push_zeros.Given as goal

abbrev pub invariant-loop : goal.invariant-loop
invariant-loop l = l.self ≡ replicate l.counter 0 ++ l.fn.self
