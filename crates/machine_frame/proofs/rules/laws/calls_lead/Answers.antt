use Rattle.machine_frame.proofs.Threads.Calling.{calls_lead, indirect_calls_lead}
use Rattle.machine_frame.proofs.rules.laws.calls_lead.Goals as goal

pub returns-clause-direct : goal.returns-clause-direct
returns-clause-direct c = calls_lead

pub returns-clause-indirect : goal.returns-clause-indirect
returns-clause-indirect c = indirect_calls_lead
