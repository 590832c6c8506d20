use Rattle.machine_frame.proofs.FramePosition.LeadingOn.{effects_lead_on, blocks_lead_in}
use Rattle.machine_frame.proofs.FramePosition.LeadingOn.{loops_lead_in}
use Rattle.machine_frame.proofs.FramePosition.LeadingOn.{ifs_lead_in, choices_lead_in}
use Rattle.machine_frame.proofs.rules.laws.frames_lead_on.Goals as goal

pub returns-clause-effects : goal.returns-clause-effects
returns-clause-effects c = effects_lead_on

pub returns-clause-blocks : goal.returns-clause-blocks
returns-clause-blocks c = blocks_lead_in

pub returns-clause-loops : goal.returns-clause-loops
returns-clause-loops c = loops_lead_in

pub returns-clause-ifs : goal.returns-clause-ifs
returns-clause-ifs c = ifs_lead_in

pub returns-clause-choices : goal.returns-clause-choices
returns-clause-choices c = choices_lead_in
