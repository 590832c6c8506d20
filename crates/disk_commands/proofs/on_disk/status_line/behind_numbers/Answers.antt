use Rattle.std.proofs.Common.{◌∙◌}
use Rattle.disk_commands.proofs.StatusLineLemmas.{numbers_spelled}
use Rattle.disk_commands.proofs.on_disk.status_line.behind_numbers.Goals as goal

pub returns-in_err-steps-clause-found : goal.returns-in_err-steps-clause-found
returns-in_err-steps-clause-found c = λ back p.
    absurd (c.in_err-steps.ensures.found p.generation p.behind_generation p.first)

pub returns-in_err-answers-clause-found : goal.returns-in_err-answers-clause-found
returns-in_err-answers-clause-found c = λ back p.
    let one = c.in_ok-steps.ensures.found p.generation p.behind_generation p.first in
    absurd (c.in_err-answers.ensures.found p.steps p.behind_steps
    (p.second.0, one ∙ p.second.1))

pub returns-in_err-lines-clause-found : goal.returns-in_err-lines-clause-found
returns-in_err-lines-clause-found c = λ back p.
    let one = c.in_ok-steps.ensures.found p.generation p.behind_generation p.first in
    let two = c.in_ok-answers.ensures.found p.steps p.behind_steps
    (p.second.0, one ∙ p.second.1) in
    absurd (c.in_err-lines.ensures.found p.answers p.behind_answers
    (p.third.0, two ∙ p.third.1))

pub returns-clause-spelled : goal.returns-clause-spelled
returns-clause-spelled c =
    numbers_spelled c.args.bytes.now c.in_ok-steps.steps.now c.in_ok-answers.answers.now
    c.in_ok-lines.lines.now c.behind_number-4.result c.in_ok-steps.ensures.spelled
    c.in_ok-answers.ensures.spelled c.in_ok-lines.ensures.spelled
    c.behind_number-4.ensures.spelled

pub returns-clause-found : goal.returns-clause-found
returns-clause-found c = λ back p.
    let one = c.in_ok-steps.ensures.found p.generation p.behind_generation p.first in
    let two = c.in_ok-answers.ensures.found p.steps p.behind_steps
    (p.second.0, one ∙ p.second.1) in
    let three = c.in_ok-lines.ensures.found p.answers p.behind_answers
    (p.third.0, two ∙ p.third.1) in
    c.behind_number-4.ensures.found p.lines back (p.last.0, three ∙ p.last.1)
