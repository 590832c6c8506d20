use Rattle.worker_store.proofs.RestartLemmas.Disks.{blank_stands_for_none, no_later_process_image}
use Rattle.worker_store.proofs.RestartLemmas.Disks.{no_later_sector, no_later_record}
use Rattle.worker_store.proofs.RestartLemmas.Disks.{one_generation, disk_examples}
use Rattle.worker_store.proofs.RestartLemmas.Disks.{one_spelled_worker, stands_within}
use Rattle.worker_store.proofs.RestartLemmas.Disks.{blank_is_within}
use Rattle.worker_store.proofs.restart_theorem.disks_stand_by_one_generation.Goals as goal

pub returns-clause-blank : goal.returns-clause-blank
returns-clause-blank c = blank_stands_for_none

pub returns-clause-process_image : goal.returns-clause-process_image
returns-clause-process_image c = no_later_process_image

pub returns-clause-sector : goal.returns-clause-sector
returns-clause-sector c = no_later_sector

pub returns-clause-record : goal.returns-clause-record
returns-clause-record c = no_later_record

pub returns-clause-one : goal.returns-clause-one
returns-clause-one c = one_generation

pub returns-clause-examples : goal.returns-clause-examples
returns-clause-examples c = disk_examples

pub returns-clause-spelled : goal.returns-clause-spelled
returns-clause-spelled c = one_spelled_worker

pub returns-clause-within : goal.returns-clause-within
returns-clause-within c = stands_within

pub returns-clause-blank_within : goal.returns-clause-blank_within
returns-clause-blank_within c = blank_is_within
