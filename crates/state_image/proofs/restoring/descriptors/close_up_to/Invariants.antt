use Rattle.std.proofs.Common.{◌≡◌, ◌-◌, ◌++◌, length, replicate, None}
use Rattle.state_image.proofs.restoring.descriptors.close_up_to.Given as goal

abbrev pub invariant-loop : goal.invariant-loop
invariant-loop l =
    l.descriptors.items
    ≡ l.fn.descriptors.items ++ replicate (l.counter - length l.fn.descriptors.items) None
