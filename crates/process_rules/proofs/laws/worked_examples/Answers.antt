use Rattle.process_rules.proofs.ExamplesHold.{hello_ends, idle_ends, trapping_ends}
use Rattle.process_rules.proofs.EchoHolds.{echo_ends}
use Rattle.process_rules.proofs.SyncingHolds.{syncing_owes}
use Rattle.process_rules.proofs.laws.worked_examples.Goals as goal

pub returns-clause-hello : goal.returns-clause-hello
returns-clause-hello c = hello_ends

pub returns-clause-idle : goal.returns-clause-idle
returns-clause-idle c = idle_ends

pub returns-clause-trapping : goal.returns-clause-trapping
returns-clause-trapping c = trapping_ends

pub returns-clause-echo : goal.returns-clause-echo
returns-clause-echo c = echo_ends

pub returns-clause-syncing : goal.returns-clause-syncing
returns-clause-syncing c = syncing_owes
