use Rattle.state_image.proofs.PartReads.{no_answers, no_requests, no_lines, no_time}
use Rattle.state_image.proofs.PartReads.{after_steps, after_answers, after_requests, after_lines}
use Rattle.state_image.proofs.reading.progress.read_counts.Goals as goal

pub returns-in_err-answers : goal.returns-in_err-answers
returns-in_err-answers c =
    rw c.from_residual-in_err-answers.ensures
    (after_steps c.in_ok-steps.ensures (no_answers c.in_err-answers.ensures))

pub returns-in_err-requests : goal.returns-in_err-requests
returns-in_err-requests c =
    rw c.from_residual-in_err-requests.ensures
    (after_steps c.in_ok-steps.ensures (after_answers c.in_ok-answers.ensures
    (no_requests c.in_err-requests.ensures)))

pub returns-in_err-lines : goal.returns-in_err-lines
returns-in_err-lines c =
    rw c.from_residual-in_err-lines.ensures
    (after_steps c.in_ok-steps.ensures (after_answers c.in_ok-answers.ensures
    (after_requests c.in_ok-requests.ensures (no_lines c.in_err-lines.ensures))))

pub returns-in_err-last_monotonic : goal.returns-in_err-last_monotonic
returns-in_err-last_monotonic c =
    rw c.from_residual-in_err-last_monotonic.ensures
    (after_steps c.in_ok-steps.ensures (after_answers c.in_ok-answers.ensures
    (after_requests c.in_ok-requests.ensures (after_lines c.in_ok-lines.ensures
    (no_time c.in_err-last_monotonic.ensures)))))
