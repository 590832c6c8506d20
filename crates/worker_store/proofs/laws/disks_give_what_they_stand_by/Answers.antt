use Rattle.worker_store.proofs.LawLemmas.Reading.{reads_the_module, finds_the_point}
use Rattle.worker_store.proofs.LawLemmas.Reading.{reads_the_point, reads_undamaged}
use Rattle.worker_store.proofs.LawLemmas.Reading.{finds_newest_point, holds_the_records}
use Rattle.worker_store.proofs.laws.disks_give_what_they_stand_by.Goals as goal

pub returns-clause-module_read : goal.returns-clause-module_read
returns-clause-module_read c = reads_the_module

pub returns-clause-head : goal.returns-clause-head
returns-clause-head c = finds_the_point

pub returns-clause-bytes : goal.returns-clause-bytes
returns-clause-bytes c = reads_the_point

pub returns-clause-undamaged : goal.returns-clause-undamaged
returns-clause-undamaged c = reads_undamaged

pub returns-clause-newest : goal.returns-clause-newest
returns-clause-newest c = finds_newest_point

pub returns-clause-records : goal.returns-clause-records
returns-clause-records c = holds_the_records
