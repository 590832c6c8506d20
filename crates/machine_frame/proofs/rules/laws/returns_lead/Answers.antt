use Rattle.machine_frame.proofs.Threads.Returning.{returns_lead, bodies_end}
use Rattle.machine_frame.proofs.rules.laws.returns_lead.Goals as goal

pub returns-clause-returns : goal.returns-clause-returns
returns-clause-returns c = returns_lead

pub returns-clause-ends : goal.returns-clause-ends
returns-clause-ends c = bodies_end
