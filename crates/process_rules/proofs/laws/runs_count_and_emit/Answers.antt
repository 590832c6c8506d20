use Rattle.process_rules.proofs.Growing.{runs_count, runs_emit}
use Rattle.process_rules.proofs.laws.runs_count_and_emit.Goals as goal

pub returns-clause-count : goal.returns-clause-count
returns-clause-count c = runs_count

pub returns-clause-emit : goal.returns-clause-emit
returns-clause-emit c = runs_emit
