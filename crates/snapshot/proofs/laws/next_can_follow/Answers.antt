use Rattle.snapshot.proofs.ExampleLemmas.{next_can_follow}
use Rattle.snapshot.proofs.LawLemmas.{can_begin_again}
use Rattle.snapshot.proofs.laws.next_can_follow.Goals as goal

pub returns-clause-next : goal.returns-clause-next
returns-clause-next c = next_can_follow

pub returns-clause-again : goal.returns-clause-again
returns-clause-again c = can_begin_again
