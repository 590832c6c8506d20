use Rattle.wasi_calls_rules.proofs.PathExamplesHold.{form_examples, walk_examples}
use Rattle.wasi_calls_rules.proofs.PathExamplesHold.{path_status_examples}
use Rattle.wasi_calls_rules.proofs.laws.paths_on_examples.Goals as goal

pub returns-clause-form : goal.returns-clause-form
returns-clause-form c = form_examples

pub returns-clause-walks : goal.returns-clause-walks
returns-clause-walks c = walk_examples

pub returns-clause-status : goal.returns-clause-status
returns-clause-status c = path_status_examples
