use Rattle.state_image.proofs.FrontReads.{no_entry_number}
use Rattle.state_image.proofs.reading.files.read_entry.Goals as goal

pub returns-in_err-number : goal.returns-in_err-number
returns-in_err-number c =
    rw c.from_residual-in_err-number.ensures
    (no_entry_number c.in_ok-name.ensures c.in_err-number.ensures)
