use Rattle.machine.proofs.InstanceLemmas.Offered.{no_entry}
use Rattle.machine.proofs.laws.no_call_is_an_entry.Goals as goal

pub returns : goal.returns
returns c = no_entry
