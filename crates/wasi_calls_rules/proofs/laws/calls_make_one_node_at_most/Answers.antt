use Rattle.wasi_calls_rules.proofs.Configured.{call_rules_make_one_node_at_most}
use Rattle.wasi_calls_rules.proofs.laws.calls_make_one_node_at_most.Goals as goal

pub returns : goal.returns
returns c = call_rules_make_one_node_at_most
