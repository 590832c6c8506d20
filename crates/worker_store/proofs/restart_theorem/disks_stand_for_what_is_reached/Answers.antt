use Rattle.worker_store.proofs.RestartLemmas.Disks.{what_stands_is_reached, records_ascend}
use Rattle.worker_store.proofs.RestartLemmas.Disks.{stands_by_its_parts, heads_tell_widenings}
use Rattle.worker_store.proofs.restart_theorem.disks_stand_for_what_is_reached.Goals as goal

pub returns-clause-reached : goal.returns-clause-reached
returns-clause-reached c = what_stands_is_reached

pub returns-clause-in_order : goal.returns-clause-in_order
returns-clause-in_order c = records_ascend

pub returns-clause-parts : goal.returns-clause-parts
returns-clause-parts c = stands_by_its_parts

pub returns-clause-versions : goal.returns-clause-versions
returns-clause-versions c = heads_tell_widenings
