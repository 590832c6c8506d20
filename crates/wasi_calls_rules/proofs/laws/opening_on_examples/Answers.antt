use Rattle.wasi_calls_rules.proofs.OpenExamplesHold.{opened_examples, open_refused_examples}
use Rattle.wasi_calls_rules.proofs.OpenExamplesHold.{open_right_examples, open_limit_examples}
use Rattle.wasi_calls_rules.proofs.laws.opening_on_examples.Goals as goal

pub returns-clause-opened : goal.returns-clause-opened
returns-clause-opened c = opened_examples

pub returns-clause-refused : goal.returns-clause-refused
returns-clause-refused c = open_refused_examples

pub returns-clause-rights : goal.returns-clause-rights
returns-clause-rights c = open_right_examples

pub returns-clause-limits : goal.returns-clause-limits
returns-clause-limits c = open_limit_examples
