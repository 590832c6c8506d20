use Rattle.wasi_calls_rules.proofs.FirstWasiStates.{first_is_host}
use Rattle.wasi_calls_rules.proofs.KeepsWasiStates.{call_rules_keep_wasi_states}
use Rattle.wasi_calls_rules.proofs.laws.calls_keep_hosts.Goals as goal

pub returns-clause-first : goal.returns-clause-first
returns-clause-first c = first_is_host

pub returns-clause-kept : goal.returns-clause-kept
returns-clause-kept c = call_rules_keep_wasi_states
