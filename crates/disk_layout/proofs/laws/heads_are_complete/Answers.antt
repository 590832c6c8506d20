use Rattle.disk_layout.proofs.HeadLemmas.{written_is_complete, head_examples}
use Rattle.disk_layout.proofs.laws.heads_are_complete.Goals as goal

pub returns-clause-complete : goal.returns-clause-complete
returns-clause-complete c = written_is_complete

pub returns-clause-examples : goal.returns-clause-examples
returns-clause-examples c = head_examples
