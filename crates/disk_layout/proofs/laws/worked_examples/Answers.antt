use Rattle.disk_layout.proofs.LongRecordLemmas.{record_examples}
use Rattle.disk_layout.proofs.laws.worked_examples.Goals as goal

pub returns-clause-records : goal.returns-clause-records
returns-clause-records c = record_examples
