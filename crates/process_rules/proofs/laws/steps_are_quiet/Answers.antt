use Rattle.process_rules.proofs.Quiet.{steps_are_quiet}
use Rattle.process_rules.proofs.laws.steps_are_quiet.Goals as goal

pub returns : goal.returns
returns c = steps_are_quiet
