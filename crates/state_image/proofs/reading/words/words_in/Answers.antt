use Rattle.std.proofs.Common.{arith}
use Rattle.wasi_abi.proofs.ByteLemmas.{all_bytes}
use Rattle.state_image.proofs.TextReads.{spelled_words, are_words}
use Rattle.state_image.proofs.reading.words.words_in.Goals as goal

pub returns-clause-spelled : goal.returns-clause-spelled
returns-clause-spelled c =
    let bytes = c.args.bytes.now in
    spelled_words c.args.count bytes c.requires
    (all_bytes bytes (λ k. omega (arith, c.type_inv.bytes k)))

pub returns-clause-few : goal.returns-clause-few
returns-clause-few c =
    let bytes = c.args.bytes.now in
    are_words c.args.count bytes (omega (arith, c.ranges.count)) c.requires
    (all_bytes bytes (λ k. omega (arith, c.type_inv.bytes k)))
