use Rattle.process_rules.proofs.ReachedTyped.{reached_are_typed}
use Rattle.process_rules.proofs.laws.reached_processes_are_typed.Goals as goal

pub returns : goal.returns
returns c = reached_are_typed
