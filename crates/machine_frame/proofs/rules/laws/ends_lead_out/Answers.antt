use Rattle.machine_frame.proofs.FramePosition.Ending.{ends_lead_out, parts_lead_out}
use Rattle.machine_frame.proofs.rules.laws.ends_lead_out.Goals as goal

pub returns-clause-ends : goal.returns-clause-ends
returns-clause-ends c = ends_lead_out

pub returns-clause-parts : goal.returns-clause-parts
returns-clause-parts c = parts_lead_out
