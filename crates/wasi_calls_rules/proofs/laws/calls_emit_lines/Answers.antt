use Rattle.wasi_calls_rules.proofs.EmitsLines.{call_rules_emit}
use Rattle.wasi_calls_rules.proofs.laws.calls_emit_lines.Goals as goal

pub returns : goal.returns
returns c = call_rules_emit
