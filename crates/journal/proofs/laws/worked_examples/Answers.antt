use Rattle.journal.proofs.ExampleLemmas.{fitting_examples, holding_examples, barrier_examples}
use Rattle.journal.proofs.ExampleLemmas.{journal_holds_examples, later_examples}
use Rattle.journal.proofs.laws.worked_examples.Goals as goal

pub returns-clause-fitting : goal.returns-clause-fitting
returns-clause-fitting c = fitting_examples

pub returns-clause-holding : goal.returns-clause-holding
returns-clause-holding c = holding_examples

pub returns-clause-journals : goal.returns-clause-journals
returns-clause-journals c = journal_holds_examples

pub returns-clause-barriers : goal.returns-clause-barriers
returns-clause-barriers c = barrier_examples

pub returns-clause-later : goal.returns-clause-later
returns-clause-later c = later_examples
