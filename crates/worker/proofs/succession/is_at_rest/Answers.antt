use Rattle.std.proofs.Common.{sym, ◌∙◌}
use Rattle.worker.proofs.HandoverLemmas.{asking_rests, runs_on}
use Rattle.worker.proofs.succession.is_at_rest.Goals as goal

pub returns : goal.returns
returns c = λ guest p shows.
    rw c.asks_for_request.ensures (asking_rests c.args.process.now c.wanted_by.result
    (runs_on c.args.process.now c.reached_end.result c.reached_end.ensures.value
    (sym c.is_some.ensures ∙ c.if-is_some.false)) guest p shows
    (c.wanted_by.ensures guest p shows))
