use Rattle.worker_store.proofs.RestartLemmas.Promised.{no_two_texts}
use Rattle.worker_store.proofs.restart_theorem.no_number_has_two_texts.Goals as goal

pub returns : goal.returns
returns c = no_two_texts
