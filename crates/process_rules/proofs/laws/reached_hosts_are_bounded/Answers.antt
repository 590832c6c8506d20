use Rattle.process_rules.proofs.ReachedStates.{reached_are_configured, reached_versions}
use Rattle.process_rules.proofs.ReachedStates.{nodes_are_few, reached_input_is_short}
use Rattle.process_rules.proofs.laws.reached_hosts_are_bounded.Goals as goal

pub returns-clause-configured : goal.returns-clause-configured
returns-clause-configured c = reached_are_configured

pub returns-clause-versions : goal.returns-clause-versions
returns-clause-versions c = reached_versions

pub returns-clause-few : goal.returns-clause-few
returns-clause-few c = nodes_are_few

pub returns-clause-input : goal.returns-clause-input
returns-clause-input c = reached_input_is_short
