use Rattle.worker_store.proofs.RestartLemmas.NextLives.{lives_go_on, lives_on}
use Rattle.worker_store.proofs.restart_theorem.lives_go_on.Goals as goal

pub returns-clause-lives : goal.returns-clause-lives
returns-clause-lives g c = lives_go_on g.D.Disk.medium

pub returns-clause-promised : goal.returns-clause-promised
returns-clause-promised g c = lives_on g.D.Disk.medium
