use Rattle.worker_store.proofs.RestartLemmas.StaysForGood.{from_creation}
use Rattle.worker_store.proofs.restart_theorem.upgrades_are_for_good.Goals as goal

pub returns-clause-done : goal.returns-clause-done
returns-clause-done c m config inputs lives earlier later held shown goes =
    (from_creation m config inputs lives goes).upgrades earlier later held shown

pub returns-clause-opened : goal.returns-clause-opened
returns-clause-opened c m config inputs lives earlier later held shown goes =
    (from_creation m config inputs lives goes).wide_openings earlier later held shown

pub returns-clause-calls : goal.returns-clause-calls
returns-clause-calls c m config inputs lives earlier later held shown goes =
    (from_creation m config inputs lives goes).upgraded_calls earlier later held shown

pub returns-clause-lines : goal.returns-clause-lines
returns-clause-lines c m config inputs lives earlier later held shown goes =
    (from_creation m config inputs lives goes).upgraded_lines earlier later held shown
