use Rattle.wasm_decode.proofs.PartLemmas.{types_part}
use Rattle.wasm_decode.proofs.parts.types_in.Goals as goal

pub returns : goal.returns
returns c =
    types_part c.args.bytes.now c.in_ok-sections.sections.bodies c.in_ok-sections.ensures
    c.row_of.result c.row_of.ensures
