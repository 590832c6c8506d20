use Rattle.machine.proofs.AskingAgain.{asks_again}
use Rattle.machine.proofs.Written.{shows_what_is_written, waits_for_the_call}
use Rattle.machine.proofs.laws.memory_may_be_written.Goals as goal

pub returns-clause-shows : goal.returns-clause-shows
returns-clause-shows c = shows_what_is_written

pub returns-clause-asks : goal.returns-clause-asks
returns-clause-asks c =
    λ program d bytes f arguments waits asks. asks_again f arguments waits program d bytes asks

pub returns-clause-waits : goal.returns-clause-waits
returns-clause-waits c = waits_for_the_call
