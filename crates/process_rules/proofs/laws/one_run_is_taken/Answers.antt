use Rattle.process_rules.proofs.OneProcess.{runs_once}
use Rattle.process_rules.proofs.laws.one_run_is_taken.Goals as goal

pub returns : goal.returns
returns c = runs_once
