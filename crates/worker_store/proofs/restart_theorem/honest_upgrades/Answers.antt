use Rattle.worker_store.proofs.RestartLemmas.HonestUpgrades.{honest_upgrades}
use Rattle.worker_store.proofs.restart_theorem.honest_upgrades.Goals as goal

pub returns : goal.returns
returns c m config t u = honest_upgrades t u
