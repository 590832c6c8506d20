use Rattle.machine_frame.proofs.Threads.Hosting.{host_calls, answers_lead}
use Rattle.machine_frame.proofs.rules.laws.hosts_lead.Goals as goal

pub returns-clause-calls : goal.returns-clause-calls
returns-clause-calls c = host_calls

pub returns-clause-answers : goal.returns-clause-answers
returns-clause-answers c = answers_lead
