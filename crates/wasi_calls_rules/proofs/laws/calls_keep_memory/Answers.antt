use Rattle.wasi_calls_rules.proofs.KeepsMemory.{call_rules_keep_memory, call_rules_keep_bytes}
use Rattle.wasi_calls_rules.proofs.laws.calls_keep_memory.Goals as goal

pub returns-clause-length : goal.returns-clause-length
returns-clause-length c = call_rules_keep_memory

pub returns-clause-bytes : goal.returns-clause-bytes
returns-clause-bytes c = call_rules_keep_bytes
