use Rattle.machine_frame.proofs.FramePosition.Branching.{branches_lead, conditions_lead}
use Rattle.machine_frame.proofs.FramePosition.Branching.{tables_lead}
use Rattle.machine_frame.proofs.rules.laws.branches_lead.Goals as goal

pub returns-clause-branches : goal.returns-clause-branches
returns-clause-branches c = branches_lead

pub returns-clause-conditions : goal.returns-clause-conditions
returns-clause-conditions c = conditions_lead

pub returns-clause-tables : goal.returns-clause-tables
returns-clause-tables c = tables_lead
