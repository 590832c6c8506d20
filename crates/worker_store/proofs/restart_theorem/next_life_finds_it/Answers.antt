use Rattle.worker_store.proofs.RestartLemmas.NextLives.{found_was_crash_image, found_is_as_long}
use Rattle.worker_store.proofs.RestartLemmas.NextLives.{found_synced_or_same, no_worker_comes}
use Rattle.worker_store.proofs.RestartLemmas.NextLives.{next_life_finds_it, next_life_is_within}
use Rattle.worker_store.proofs.restart_theorem.next_life_finds_it.Goals as goal

pub returns-clause-keeps : goal.returns-clause-keeps
returns-clause-keeps g c = next_life_finds_it g.D.Disk.medium

pub returns-clause-was_crash_image : goal.returns-clause-was_crash_image
returns-clause-was_crash_image g c = found_was_crash_image g.D.Disk.medium

pub returns-clause-as_long : goal.returns-clause-as_long
returns-clause-as_long g c = found_is_as_long g.D.Disk.medium

pub returns-clause-synced_or_same : goal.returns-clause-synced_or_same
returns-clause-synced_or_same g c = found_synced_or_same g.D.Disk.medium

pub returns-clause-no_worker : goal.returns-clause-no_worker
returns-clause-no_worker g c = no_worker_comes g.D.Disk.medium

pub returns-clause-within : goal.returns-clause-within
returns-clause-within g c = next_life_is_within g.D.Disk.medium
