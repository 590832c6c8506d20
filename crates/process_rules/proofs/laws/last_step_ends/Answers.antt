use Rattle.process_rules.proofs.Quiet.{last_step_ends}
use Rattle.process_rules.proofs.laws.last_step_ends.Goals as goal

pub returns : goal.returns
returns c = last_step_ends
