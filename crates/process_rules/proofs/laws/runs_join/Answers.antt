use Rattle.process_rules.proofs.Quiet.{runs_join}
use Rattle.process_rules.proofs.laws.runs_join.Goals as goal

pub returns : goal.returns
returns c = runs_join
