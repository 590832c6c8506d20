use Rattle.process.proofs.NumberLaws.{calls_alone, ends_have_numbers}
use Rattle.process.proofs.laws.lines_run_out_by_calls_alone.Goals as goal

pub returns-clause-calls : goal.returns-clause-calls
returns-clause-calls c = calls_alone

pub returns-clause-ends : goal.returns-clause-ends
returns-clause-ends c = ends_have_numbers
