use Rattle.process_rules.proofs.Quiet.{quiet_runs_join, quiet_runs_are_runs}
use Rattle.process_rules.proofs.laws.quiet_runs_join.Goals as goal

pub returns-clause-joined : goal.returns-clause-joined
returns-clause-joined c = quiet_runs_join

pub returns-clause-runs : goal.returns-clause-runs
returns-clause-runs c = quiet_runs_are_runs
