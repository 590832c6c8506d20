use Rattle.worker_store.proofs.RestartLemmas.Honesty.{honest_stories}
use Rattle.worker_store.proofs.restart_theorem.honest_stories.Goals as goal

pub returns : goal.returns
returns c m config t = honest_stories t
