use Rattle.worker_store.proofs.LawLemmas.Underway.{lines_are_left, left_is_broken}
use Rattle.worker_store.proofs.LawLemmas.Telling.{rest_is_told, rest_is_told_in_vain}
use Rattle.worker_store.proofs.LawLemmas.CallEnds.{late_faults_end}
use Rattle.worker_store.proofs.events.batches_tell_lines.Goals as goal

pub returns-clause-left : goal.returns-clause-left
returns-clause-left c = lines_are_left

pub returns-clause-broken : goal.returns-clause-broken
returns-clause-broken c = left_is_broken

pub returns-clause-told : goal.returns-clause-told
returns-clause-told c = rest_is_told

pub returns-clause-in_vain : goal.returns-clause-in_vain
returns-clause-in_vain c = rest_is_told_in_vain

pub returns-clause-fails : goal.returns-clause-fails
returns-clause-fails c = late_faults_end
