use Rattle.wasm_rules.proofs.Soundness.Beginning.{programs_typed, begins_typed}
use Rattle.wasm_rules.proofs.laws.valid_modules_begin_typed.Goals as goal

pub returns-clause-programs : goal.returns-clause-programs
returns-clause-programs c = programs_typed

pub returns-clause-begins : goal.returns-clause-begins
returns-clause-begins c = begins_typed
