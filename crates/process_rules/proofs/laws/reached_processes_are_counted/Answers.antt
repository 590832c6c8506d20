use Rattle.process_rules.proofs.Counted.{reached_are_counted, reached_are_closed}
use Rattle.process_rules.proofs.laws.reached_processes_are_counted.Goals as goal

pub returns-clause-counted : goal.returns-clause-counted
returns-clause-counted c = reached_are_counted

pub returns-clause-closed : goal.returns-clause-closed
returns-clause-closed c = reached_are_closed
