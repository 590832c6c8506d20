use Rattle.std.proofs.Common.{inl, refl, arith, rules}
use Rattle.machine.proofs.execution.calls.enter_or_trap.Goals as goal

pub enter-requires-clause-room : goal.enter-requires-clause-room
enter-requires-clause-room c = search (rules, arith)

pub returns : goal.returns
returns c = inl (refl, search (rules, arith), c.enter.ensures)
