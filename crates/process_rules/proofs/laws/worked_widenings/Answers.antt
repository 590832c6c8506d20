use Rattle.process_rules.proofs.EchoHolds.{echo_wants_more}
use Rattle.process_rules.proofs.WideningHolds.{hello_is_widened}
use Rattle.process_rules.proofs.laws.worked_widenings.Goals as goal

pub returns-clause-hello : goal.returns-clause-hello
returns-clause-hello c = hello_is_widened

pub returns-clause-echo : goal.returns-clause-echo
returns-clause-echo c = echo_wants_more
