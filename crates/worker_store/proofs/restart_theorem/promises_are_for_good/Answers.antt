use Rattle.worker_store.proofs.RestartLemmas.StaysForGood.{from_creation, what_is_for_good}
use Rattle.worker_store.proofs.restart_theorem.promises_are_for_good.Goals as goal

pub returns-clause-openings : goal.returns-clause-openings
returns-clause-openings c m config inputs lives earlier later held shown goes =
    (from_creation m config inputs lives goes).openings earlier later held shown

pub returns-clause-checkpoints : goal.returns-clause-checkpoints
returns-clause-checkpoints c m config inputs lives earlier later held shown goes =
    (from_creation m config inputs lives goes).checkpoints earlier later held shown

pub returns-clause-syncs : goal.returns-clause-syncs
returns-clause-syncs c m config inputs lives earlier later act reply held shown k a goes =
    (from_creation m config inputs lives goes).syncs earlier later act reply held shown k a

pub returns-clause-any : goal.returns-clause-any
returns-clause-any c = what_is_for_good
