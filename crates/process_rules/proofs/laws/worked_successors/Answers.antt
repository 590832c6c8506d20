use Rattle.process_rules.proofs.SucceedingHolds.{hello_goes_on}
use Rattle.process_rules.proofs.laws.worked_successors.Goals as goal

pub returns : goal.returns
returns c = hello_goes_on
