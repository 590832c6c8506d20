use Rattle.wasm_rules.proofs.OneSequence.{one_sequence}
use Rattle.wasm_rules.proofs.OneRun.{one_run}
use Rattle.wasm_rules.proofs.laws.nothing_is_left_open.Goals as goal

pub returns-clause-one_sequence : goal.returns-clause-one_sequence
returns-clause-one_sequence c = one_sequence

pub returns-clause-one_run : goal.returns-clause-one_run
returns-clause-one_run c = one_run
