use Rattle.wasi_calls.proofs.FewLines.{calls_begin_few}
use Rattle.wasi_calls.proofs.laws.calls_begin_few_lines.Goals as goal

pub returns : goal.returns
returns c = calls_begin_few
