use Rattle.state_image.proofs.FrontReads.{no_function, no_position, no_slots}
use Rattle.state_image.proofs.FrontReads.{after_function, after_position}
use Rattle.state_image.proofs.reading.machine_state.read_frame.Goals as goal

pub returns-in_err-function : goal.returns-in_err-function
returns-in_err-function c =
    rw c.from_residual.ensures (no_function c.in_err-function.ensures)

pub returns-in_err-position : goal.returns-in_err-position
returns-in_err-position c =
    rw c.from_residual-in_err-position.ensures
    (after_function c.in_ok-function.ensures (no_position c.in_err-position.ensures))

pub returns-in_err-slots : goal.returns-in_err-slots
returns-in_err-slots c =
    rw c.from_residual-in_err-slots.ensures
    (after_function c.in_ok-function.ensures (after_position c.in_ok-position.ensures
    (no_slots c.in_err-slots.ensures)))
