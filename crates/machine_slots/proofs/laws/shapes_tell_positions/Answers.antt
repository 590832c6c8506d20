use Rattle.machine_slots.proofs.ShapePositions.{shapes_tell, labels_tell}
use Rattle.machine_slots.proofs.laws.shapes_tell_positions.Goals as goal

pub returns-clause-shapes : goal.returns-clause-shapes
returns-clause-shapes c = shapes_tell

pub returns-clause-labels : goal.returns-clause-labels
returns-clause-labels c = labels_tell
