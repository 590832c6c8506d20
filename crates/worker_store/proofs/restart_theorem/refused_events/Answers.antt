use Rattle.worker_store.proofs.RestartLemmas.Refusing.{refused_events}
use Rattle.worker_store.proofs.restart_theorem.refused_events.Goals as goal

pub returns : goal.returns
returns c = refused_events
