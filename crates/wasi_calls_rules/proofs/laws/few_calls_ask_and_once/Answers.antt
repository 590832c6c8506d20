use Rattle.wasi_calls_rules.proofs.Halting.{few_call_rules_ask}
use Rattle.wasi_calls_rules.proofs.AskingOnce.{call_rules_ask_once}
use Rattle.wasi_calls_rules.proofs.laws.few_calls_ask_and_once.Goals as goal

pub returns-clause-few : goal.returns-clause-few
returns-clause-few c = few_call_rules_ask

pub returns-clause-once : goal.returns-clause-once
returns-clause-once c = call_rules_ask_once
