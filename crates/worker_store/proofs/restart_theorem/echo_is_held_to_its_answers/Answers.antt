use Rattle.worker_store.proofs.RestartLemmas.EchoLives.{echo_refusals_hold}
use Rattle.worker_store.proofs.restart_theorem.echo_is_held_to_its_answers.Goals as goal

pub returns : goal.returns
returns c = echo_refusals_hold
