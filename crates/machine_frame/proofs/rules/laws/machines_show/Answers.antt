use Rattle.machine_frame.proofs.Threads.Showing.{reduced_is_shown, shown_stands}
use Rattle.machine_frame.proofs.rules.laws.machines_show.Goals as goal

pub returns-clause-reduced : goal.returns-clause-reduced
returns-clause-reduced c = reduced_is_shown

pub returns-clause-shown : goal.returns-clause-shown
returns-clause-shown c = shown_stands
