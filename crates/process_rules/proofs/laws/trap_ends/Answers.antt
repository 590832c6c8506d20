use Rattle.process_rules.proofs.Quiet.{trap_ends}
use Rattle.process_rules.proofs.laws.trap_ends.Goals as goal

pub returns : goal.returns
returns c = trap_ends
