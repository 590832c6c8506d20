use Rattle.state_image.proofs.PartReads.{no_code, no_input_flag, no_phase, after_number, after_code}
use Rattle.state_image.proofs.reading.progress.read_end.Goals as goal

pub returns-in_err-code : goal.returns-in_err-code
returns-in_err-code c =
    rw c.from_residual-in_err-code.ensures
    (after_number c.in_ok-number.ensures (no_code c.in_err-code.ensures))

pub returns-in_err-phase : goal.returns-in_err-phase
returns-in_err-phase c =
    rw c.from_residual-in_err-phase.ensures
    (no_phase c.in_ok-number.number c.in_ok-code.code c.in_ok-number.ensures c.in_ok-code.ensures
    c.in_err-phase.ensures)

pub returns-in_err-input_ended : goal.returns-in_err-input_ended
returns-in_err-input_ended c =
    rw c.from_residual-in_err-input_ended.ensures
    (after_number c.in_ok-number.ensures (after_code c.in_ok-code.ensures
    (no_input_flag c.in_err-input_ended.ensures)))
