use Rattle.snapshot.proofs.CallExamples.{call_examples}
use Rattle.snapshot.proofs.StateLemmas.{state_examples}
use Rattle.snapshot.proofs.ExampleLemmas.{ready_examples, area_examples}
use Rattle.snapshot.proofs.laws.worked_examples.Goals as goal

pub returns-clause-ready : goal.returns-clause-ready
returns-clause-ready c = ready_examples

pub returns-clause-areas : goal.returns-clause-areas
returns-clause-areas c = area_examples

pub returns-clause-calls : goal.returns-clause-calls
returns-clause-calls c = call_examples

pub returns-clause-states : goal.returns-clause-states
returns-clause-states c = state_examples
