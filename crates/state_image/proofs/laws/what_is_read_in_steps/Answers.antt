use Rattle.state_image.proofs.FieldsGiven.{parts_of_processes}
use Rattle.state_image.proofs.StepsRead.{node_read_in_steps, descriptor_read_in_steps}
use Rattle.state_image.proofs.laws.what_is_read_in_steps.Goals as goal

pub returns-clause-nodes : goal.returns-clause-nodes
returns-clause-nodes c = node_read_in_steps

pub returns-clause-descriptors : goal.returns-clause-descriptors
returns-clause-descriptors c = descriptor_read_in_steps

pub returns-clause-parts : goal.returns-clause-parts
returns-clause-parts c = parts_of_processes
