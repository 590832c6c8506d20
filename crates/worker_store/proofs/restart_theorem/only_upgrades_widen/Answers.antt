use Rattle.std.proofs.Common.{refl}
use Rattle.worker_store.proofs.RestartLemmas.StaysForGood.{from_creation}
use Rattle.worker_store.proofs.RestartLemmas.Widenings.{ends_widen_once}
use Rattle.worker_store.proofs.restart_theorem.only_upgrades_widen.Goals as goal

pub returns-clause-only : goal.returns-clause-only
returns-clause-only c m config inputs lives earlier later goes =
    (from_creation m config inputs lives goes).only_upgrades earlier later refl

pub returns-clause-once : goal.returns-clause-once
returns-clause-once c = ends_widen_once
