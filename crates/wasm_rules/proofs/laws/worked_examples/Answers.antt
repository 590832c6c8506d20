use Rattle.wasm_rules.proofs.ExamplesHold.{typing_examples}
use Rattle.wasm_rules.proofs.laws.worked_examples.Goals as goal

pub returns-clause-typing : goal.returns-clause-typing
returns-clause-typing c = typing_examples
