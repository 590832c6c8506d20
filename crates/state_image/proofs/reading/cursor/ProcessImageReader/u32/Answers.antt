use Rattle.wasi_abi.specs.rules.Layouts.{u32_bytes}
use Rattle.state_image.proofs.ReadLemmas.{none_word, has_spelled}
use Rattle.state_image.proofs.reading.cursor.ProcessImageReader.u32.Goals as goal

pub returns-in_err-bytes : goal.returns-in_err-bytes
returns-in_err-bytes c = rw c.from_residual.ensures (none_word 4 c.in_err-bytes.ensures)

pub returns : goal.returns
returns c =
    has_spelled u32_bytes c.u32_in.result c.u32_in.type_inv c.u32_in.ensures
    c.in_ok-bytes.ensures
