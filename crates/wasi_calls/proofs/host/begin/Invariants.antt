use Rattle.std.proofs.Common.{◌≡◌, ◌-◌, ◌++◌, replicate}
use Rattle.std.specs.Prelude.{None}
use Rattle.wasi_calls.proofs.host.begin.Given as goal

abbrev pub invariant-loop : goal.invariant-loop
invariant-loop l =
    l.descriptors.items ≡ l.initial.descriptors.items ++ replicate (l.counter - 4) None
