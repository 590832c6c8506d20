use Rattle.std.proofs.Common.{ap, ◌∙◌, arith}
use Rattle.wasi_abi.specs.rules.Layouts.{u64_bytes}
use Rattle.wasi_abi.proofs.ByteLemmas.{all_bytes}
use Rattle.state_image.proofs.ReadLemmas.{word_in}
use Rattle.state_image.proofs.reading.cursor.u64_in.Goals as goal

pub returns : goal.returns
returns c =
    let bytes = c.args.bytes.now in
    ap u64_bytes c.read_u64.ensures
    ∙ word_in 8 bytes c.requires (all_bytes bytes (λ k. omega (arith, c.type_inv.bytes k)))
