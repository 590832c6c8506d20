use Rattle.wasi_calls_rules.proofs.Configured.{call_rules_keep_times}
use Rattle.wasi_calls_rules.proofs.Times.{last_times_are_told}
use Rattle.wasi_calls_rules.proofs.laws.monotonic_clocks_never_fall.Goals as goal

pub returns-clause-kept : goal.returns-clause-kept
returns-clause-kept c = call_rules_keep_times

pub returns-clause-told : goal.returns-clause-told
returns-clause-told c = last_times_are_told
