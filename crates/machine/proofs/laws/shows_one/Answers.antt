use Rattle.machine.proofs.OneShown.{shows_one}
use Rattle.machine.proofs.laws.shows_one.Goals as goal

pub returns : goal.returns
returns c = shows_one
