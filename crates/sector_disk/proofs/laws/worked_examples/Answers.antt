use Rattle.sector_disk.proofs.ExampleLemmas.{run_examples}
use Rattle.sector_disk.proofs.laws.worked_examples.Goals as goal

pub returns-clause-runs : goal.returns-clause-runs
returns-clause-runs c = run_examples
