use Rattle.state_image.specs.rules.ProcessImage.{process_image_mark}
use Rattle.state_image.proofs.Marks.{marked, mark_length}
use Rattle.state_image.proofs.ReadLemmas.{none_of}
use Rattle.state_image.proofs.reading.mark.read_mark.Goals as goal

pub returns-in_err-mark : goal.returns-in_err-mark
returns-in_err-mark c =
    rw c.from_residual.ensures
    (none_of process_image_mark (λ version h. mark_length version) c.in_err-mark.ensures)

pub returns : goal.returns
returns c =
    marked c.version_of.result c.in_ok-mark.mark.now c.in_ok-mark.ensures c.version_of.ensures
