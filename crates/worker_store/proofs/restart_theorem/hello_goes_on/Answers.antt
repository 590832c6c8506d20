use Rattle.worker_store.proofs.RestartLemmas.HelloLives.{hello_lives_hold}
use Rattle.worker_store.proofs.RestartLemmas.HelloUpgrades.{hello_upgrades_hold}
use Rattle.worker_store.proofs.RestartLemmas.SuccessorLives.{hello_successors}
use Rattle.worker_store.proofs.restart_theorem.hello_goes_on.Goals as goal

pub returns-clause-lives : goal.returns-clause-lives
returns-clause-lives c = hello_lives_hold

pub returns-clause-upgrades : goal.returns-clause-upgrades
returns-clause-upgrades c = hello_upgrades_hold

pub returns-clause-successors : goal.returns-clause-successors
returns-clause-successors c = hello_successors
