use Rattle.wasi_calls_rules.proofs.PathExamplesHold.{listing_examples, making_examples}
use Rattle.wasi_calls_rules.proofs.PathExamplesHold.{removal_examples, rename_examples}
use Rattle.wasi_calls_rules.proofs.laws.directories_on_examples.Goals as goal

pub returns-clause-listing : goal.returns-clause-listing
returns-clause-listing c = listing_examples

pub returns-clause-making : goal.returns-clause-making
returns-clause-making c = making_examples

pub returns-clause-removal : goal.returns-clause-removal
returns-clause-removal c = removal_examples

pub returns-clause-renaming : goal.returns-clause-renaming
returns-clause-renaming c = rename_examples
