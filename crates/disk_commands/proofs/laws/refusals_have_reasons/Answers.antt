use Rattle.disk_commands.proofs.RefusalLemmas.{refusals_have_reasons as are_reasoned}
use Rattle.disk_commands.proofs.laws.refusals_have_reasons.Goals as goal

pub returns : goal.returns
returns g = are_reasoned
