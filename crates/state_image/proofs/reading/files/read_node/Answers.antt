use Rattle.state_image.proofs.FrontReads.{no_content}
use Rattle.state_image.proofs.reading.files.read_node.Goals as goal

pub returns-in_err-content : goal.returns-in_err-content
returns-in_err-content c =
    rw c.from_residual-in_err-content.ensures
    (no_content c.in_ok-number.ensures c.in_err-content.ensures)
