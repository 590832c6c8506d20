use Rattle.state_image.proofs.ReachedWellTyped.{reached_is_well_typed, saved_is_well_typed}
use Rattle.state_image.proofs.laws.reached_processes_are_well_typed.Goals as goal

pub returns-clause-reached : goal.returns-clause-reached
returns-clause-reached c = reached_is_well_typed

pub returns-clause-saved : goal.returns-clause-saved
returns-clause-saved c = saved_is_well_typed
