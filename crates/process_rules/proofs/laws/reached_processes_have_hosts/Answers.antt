use Rattle.process_rules.proofs.ReachedStates.{reached_have_wasi_states}
use Rattle.process_rules.proofs.laws.reached_processes_have_hosts.Goals as goal

pub returns : goal.returns
returns c = reached_have_wasi_states
