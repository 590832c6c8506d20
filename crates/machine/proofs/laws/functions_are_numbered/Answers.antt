use Rattle.machine.proofs.RoutineLemmas.Numbers.{functions_numbered, functions_counted}
use Rattle.machine.proofs.laws.functions_are_numbered.Goals as goal

pub returns-clause-numbered : goal.returns-clause-numbered
returns-clause-numbered c = functions_numbered

pub returns-clause-counted : goal.returns-clause-counted
returns-clause-counted c = functions_counted
