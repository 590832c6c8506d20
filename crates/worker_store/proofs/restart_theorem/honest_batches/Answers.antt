use Rattle.worker_store.proofs.RestartLemmas.HonestBatches.{honest_batches}
use Rattle.worker_store.proofs.restart_theorem.honest_batches.Goals as goal

pub returns : goal.returns
returns c m config t = honest_batches t
