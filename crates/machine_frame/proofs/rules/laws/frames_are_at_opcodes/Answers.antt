use Rattle.machine_frame.proofs.FramePosition.Positions.{opcodes_remain, is_typed_somewhere}
use Rattle.machine_frame.proofs.FramePosition.Positions.{labels_end}
use Rattle.machine_frame.proofs.FramePosition.Positions.{operands_are_few, entry_is_typed}
use Rattle.machine_frame.proofs.rules.laws.frames_are_at_opcodes.Goals as goal

pub returns-clause-opcodes : goal.returns-clause-opcodes
returns-clause-opcodes c = opcodes_remain

pub returns-clause-somewhere : goal.returns-clause-somewhere
returns-clause-somewhere c = is_typed_somewhere

pub returns-clause-labels : goal.returns-clause-labels
returns-clause-labels c = labels_end

pub returns-clause-few : goal.returns-clause-few
returns-clause-few c = operands_are_few

pub returns-clause-entry : goal.returns-clause-entry
returns-clause-entry c = entry_is_typed
