use Rattle.wasi_calls_rules.proofs.WasiStateBytes.{call_rules_keep_states_of_bytes}
use Rattle.wasi_calls_rules.proofs.laws.calls_keep_hosts_of_bytes.Goals as goal

pub returns : goal.returns
returns c = call_rules_keep_states_of_bytes
