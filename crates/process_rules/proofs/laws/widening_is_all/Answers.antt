use Rattle.process_rules.proofs.OneProcess.{widening_is_all}
use Rattle.process_rules.proofs.ReachedStates.{widened_once}
use Rattle.process_rules.proofs.laws.widening_is_all.Goals as goal

pub returns-clause-all : goal.returns-clause-all
returns-clause-all c = widening_is_all

pub returns-clause-once : goal.returns-clause-once
returns-clause-once c = widened_once
