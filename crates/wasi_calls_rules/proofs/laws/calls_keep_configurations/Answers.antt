use Rattle.wasi_calls_rules.proofs.Configured.{call_rules_keep_configurations}
use Rattle.wasi_calls_rules.proofs.Configured.{call_rules_keep_versions}
use Rattle.wasi_calls_rules.proofs.laws.calls_keep_configurations.Goals as goal

pub returns-clause-configured : goal.returns-clause-configured
returns-clause-configured c = call_rules_keep_configurations

pub returns-clause-version : goal.returns-clause-version
returns-clause-version c = call_rules_keep_versions
