use Rattle.worker_store.proofs.RestartLemmas.NumbersKept.{runs_keep_numbers, records_keep_numbers}
use Rattle.worker_store.proofs.RestartLemmas.NumbersKept.{saved_are_numbered}
use Rattle.worker_store.proofs.restart_theorem.numbers_only_grow.Goals as goal

pub returns-clause-runs : goal.returns-clause-runs
returns-clause-runs c = runs_keep_numbers

pub returns-clause-records : goal.returns-clause-records
returns-clause-records c = records_keep_numbers

pub returns-clause-saved : goal.returns-clause-saved
returns-clause-saved c = saved_are_numbered
