use Rattle.wasi_abi.specs.rules.Layouts.{u64_bytes}
use Rattle.state_image.proofs.ReadLemmas.{none_word, has_spelled}
use Rattle.state_image.proofs.reading.cursor.ProcessImageReader.u64.Goals as goal

pub returns-in_err-bytes : goal.returns-in_err-bytes
returns-in_err-bytes c = rw c.from_residual.ensures (none_word 8 c.in_err-bytes.ensures)

pub returns : goal.returns
returns c =
    has_spelled u64_bytes c.u64_in.result c.u64_in.type_inv c.u64_in.ensures
    c.in_ok-bytes.ensures
