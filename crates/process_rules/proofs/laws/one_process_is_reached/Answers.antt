use Rattle.process_rules.proofs.OneProcess.{one_process}
use Rattle.process_rules.proofs.laws.one_process_is_reached.Goals as goal

pub returns : goal.returns
returns c = one_process
