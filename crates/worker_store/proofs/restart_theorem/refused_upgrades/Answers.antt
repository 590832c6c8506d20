use Rattle.worker_store.proofs.RestartLemmas.RefusingUpgrades.{refused_upgrades, refused_upgraders}
use Rattle.worker_store.proofs.restart_theorem.refused_upgrades.Goals as goal

pub returns-clause-events : goal.returns-clause-events
returns-clause-events c = refused_upgrades

pub returns-clause-lives : goal.returns-clause-lives
returns-clause-lives c = refused_upgraders
