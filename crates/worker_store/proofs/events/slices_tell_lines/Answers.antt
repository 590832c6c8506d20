use Rattle.worker_store.proofs.LawLemmas.Underway.{steps_go_on, lines_are_told, taken_lines_go_on}
use Rattle.worker_store.proofs.LawLemmas.Underway.{refused_lines_break}
use Rattle.worker_store.proofs.LawLemmas.Telling.{all_lines_are_told, lines_are_told_in_vain}
use Rattle.worker_store.proofs.events.slices_tell_lines.Goals as goal

pub returns-clause-steps : goal.returns-clause-steps
returns-clause-steps c = steps_go_on

pub returns-clause-told : goal.returns-clause-told
returns-clause-told c = lines_are_told

pub returns-clause-taken : goal.returns-clause-taken
returns-clause-taken c = taken_lines_go_on

pub returns-clause-refused : goal.returns-clause-refused
returns-clause-refused c = refused_lines_break

pub returns-clause-all : goal.returns-clause-all
returns-clause-all c = all_lines_are_told

pub returns-clause-in_vain : goal.returns-clause-in_vain
returns-clause-in_vain c = lines_are_told_in_vain
