use Rattle.snapshot.proofs.LawLemmas.{fails_for_good}
use Rattle.snapshot.proofs.laws.failures_are_for_good.Goals as goal

pub returns : goal.returns
returns c = fails_for_good
