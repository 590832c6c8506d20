use Rattle.machine_slots.proofs.Branches.{branch_splits, return_splits, entry_pushes}
use Rattle.machine_slots.proofs.laws.jumps_are_falls.Goals as goal

pub returns-clause-branches : goal.returns-clause-branches
returns-clause-branches c = branch_splits

pub returns-clause-returns : goal.returns-clause-returns
returns-clause-returns c = return_splits

pub returns-clause-entries : goal.returns-clause-entries
returns-clause-entries c = entry_pushes
