use Rattle.wasi_calls_rules.proofs.ExamplesHold.{opening_examples, writing_examples}
use Rattle.wasi_calls_rules.proofs.ExamplesHold.{directory_examples}
use Rattle.wasi_calls_rules.proofs.laws.worked_examples.Goals as goal

pub returns-clause-opening : goal.returns-clause-opening
returns-clause-opening c = opening_examples

pub returns-clause-directories : goal.returns-clause-directories
returns-clause-directories c = directory_examples

pub returns-clause-writing : goal.returns-clause-writing
returns-clause-writing c = writing_examples
