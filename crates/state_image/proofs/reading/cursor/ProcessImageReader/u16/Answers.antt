use Rattle.wasi_abi.specs.rules.Layouts.{u16_bytes}
use Rattle.state_image.proofs.ReadLemmas.{none_word, has_spelled}
use Rattle.state_image.proofs.reading.cursor.ProcessImageReader.u16.Goals as goal

pub returns-in_err-bytes : goal.returns-in_err-bytes
returns-in_err-bytes c = rw c.from_residual.ensures (none_word 2 c.in_err-bytes.ensures)

pub returns : goal.returns
returns c =
    has_spelled u16_bytes c.u16_in.result c.u16_in.type_inv c.u16_in.ensures
    c.in_ok-bytes.ensures
