use Rattle.snapshot.proofs.LawLemmas.{shows_one}
use Rattle.snapshot.proofs.laws.newest_is_one.Goals as goal

pub returns : goal.returns
returns c = shows_one
