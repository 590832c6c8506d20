use Rattle.std.proofs.Common.{ap, ◌∙◌, arith}
use Rattle.wasi_abi.specs.rules.Layouts.{u32_bytes}
use Rattle.wasi_abi.proofs.ByteLemmas.{all_bytes}
use Rattle.state_image.proofs.ReadLemmas.{word_in}
use Rattle.state_image.proofs.reading.cursor.u32_in.Goals as goal

pub returns : goal.returns
returns c =
    let bytes = c.args.bytes.now in
    ap u32_bytes c.read_u32.ensures
    ∙ word_in 4 bytes c.requires (all_bytes bytes (λ k. omega (arith, c.type_inv.bytes k)))
