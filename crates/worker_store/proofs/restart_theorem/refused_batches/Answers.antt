use Rattle.worker_store.proofs.RestartLemmas.RefusingBatches.{refused_batches, refused_batch_lives}
use Rattle.worker_store.proofs.restart_theorem.refused_batches.Goals as goal

pub returns-clause-events : goal.returns-clause-events
returns-clause-events c = refused_batches

pub returns-clause-lives : goal.returns-clause-lives
returns-clause-lives c = refused_batch_lives
