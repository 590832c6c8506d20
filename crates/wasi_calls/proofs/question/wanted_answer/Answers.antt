use Rattle.std.proofs.Common.{sym, ◌∙◌}
use Rattle.wasi_abi.specs.declared.call.Call.TheVariants as call
use Rattle.wasi_calls.proofs.Questions.{wants_none, few_may_ask, question_shown}
use Rattle.wasi_calls.proofs.question.wanted_answer.Goals as goal

pub returns-in-FdRead : goal.returns-in-FdRead
returns-in-FdRead c = λ h s.
    rw (c.in-FdRead.is, c.of_move.ensures)
    (c.wanted_by_read.ensures ∙ sym (rw c.of_move.ensures at (question_shown call.FdRead
    c.args.arguments.now c.args.memory.now.bytes c.args.host.now h s)))

pub returns-in_default : goal.returns-in_default
returns-in_default c = λ h s.
    wants_none c.args.call
    (few_may_ask c.args.call c.in_default.not-ClockTimeGet c.in_default.not-FdRead
    c.in_default.not-RandomGet)
    c.args.arguments.now c.args.memory.now.bytes h
