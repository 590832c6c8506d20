use Rattle.wasi_calls_rules.proofs.Fitting.{tests_tell}
use Rattle.wasi_calls_rules.proofs.laws.answers_are_taken_that_fit.Goals as goal

pub returns : goal.returns
returns c = tests_tell
