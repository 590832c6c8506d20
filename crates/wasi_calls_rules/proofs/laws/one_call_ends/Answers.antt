use Rattle.wasi_calls_rules.proofs.Halting.{exit_alone_ends}
use Rattle.wasi_calls_rules.proofs.laws.one_call_ends.Goals as goal

pub returns : goal.returns
returns c = exit_alone_ends
