use Rattle.worker_store.proofs.RestartLemmas.StaysForGood.{from_creation}
use Rattle.worker_store.proofs.restart_theorem.passed_lines_are_told_no_more.Goals as goal

pub returns-clause-openings : goal.returns-clause-openings
returns-clause-openings c m config inputs lives earlier later held shown goes =
    (from_creation m config inputs lives goes).opened_lines earlier later held shown

pub returns-clause-checkpoints : goal.returns-clause-checkpoints
returns-clause-checkpoints c m config inputs lives earlier later held shown goes =
    (from_creation m config inputs lives goes).saved_lines earlier later held shown
