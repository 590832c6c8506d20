use Rattle.machine_frame.proofs.FramePosition.Walking.{walks_are_steps, walks_reduce, walks_compose}
use Rattle.machine_frame.proofs.FramePosition.Walking.{walks_are_typed}
use Rattle.machine_frame.proofs.rules.laws.walks_are_steps.Goals as goal

pub returns-clause-steps : goal.returns-clause-steps
returns-clause-steps c = walks_are_steps

pub returns-clause-reduce : goal.returns-clause-reduce
returns-clause-reduce c = walks_reduce

pub returns-clause-compose : goal.returns-clause-compose
returns-clause-compose c = walks_compose

pub returns-clause-typed : goal.returns-clause-typed
returns-clause-typed c = walks_are_typed
