use Rattle.worker_store.proofs.RestartLemmas.Successions.{successors_go_on}
use Rattle.worker_store.proofs.RestartLemmas.SuccessionOrigins.{origins_stay, plain_succeed_none}
use Rattle.worker_store.proofs.restart_theorem.successors_go_on.Goals as goal

pub returns-clause-lives : goal.returns-clause-lives
returns-clause-lives g c = successors_go_on g.D.Disk.medium

pub returns-clause-origins : goal.returns-clause-origins
returns-clause-origins g c = origins_stay

pub returns-clause-plain : goal.returns-clause-plain
returns-clause-plain g c = plain_succeed_none
