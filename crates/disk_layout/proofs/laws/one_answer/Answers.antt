use Rattle.disk_layout.proofs.ReadingLemmas.HeldLemmas.{one_answer}
use Rattle.disk_layout.proofs.laws.one_answer.Goals as goal

pub returns : goal.returns
returns c = one_answer
