use Rattle.std.proofs.Common.{arith}
use Rattle.wasi_calls_rules.proofs.EmitsLines.{call_rules_keep_lines}
use Rattle.wasi_calls.proofs.FewLines.{ended_kept}
use Rattle.wasi_calls.proofs.calls.lines_begun.Goals as goal

pub returns-in_default-clause-count : goal.returns-in_default-clause-count
returns-in_default-clause-count c = λ given h done s e.
    let kept = call_rules_keep_lines c.args.call c.args.arguments.now given
    c.args.memory.now.bytes h done c.in_default.not-FdWrite e in
    omega (arith, ended_kept h done.host kept)
