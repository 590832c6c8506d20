use Rattle.wasi_calls_rules.proofs.ShortInput.{call_rules_keep_input_short}
use Rattle.wasi_calls_rules.proofs.laws.calls_keep_input_short.Goals as goal

pub returns : goal.returns
returns c = call_rules_keep_input_short
