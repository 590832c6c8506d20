use Rattle.worker.proofs.HandoverLemmas.{works_where_told}
use Rattle.worker.proofs.succession.is_parked.Goals as goal

pub returns-clause-at_work : goal.returns-clause-at_work
returns-clause-at_work c =
    works_where_told c.args.found.now c.is_at_rest.result c.is_at_rest.ensures
