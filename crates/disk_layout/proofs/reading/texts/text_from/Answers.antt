use Rattle.std.proofs.Common.{◌≡◌, ◌+◌, ◌<◌, ◌^◌, arith}
use Rattle.wasi_abi.specs.rules.Layouts.{u16_at}
use Rattle.wasi_abi.proofs.ByteLemmas.{all_bytes}
use Rattle.disk_layout.proofs.ReadingLemmas.SpellingLemmas.{text_lent}
use Rattle.disk_layout.proofs.reading.texts.text_from.Goals as goal

pub returns : goal.returns
returns c =
    let bytes = c.args.bytes.now in
    let is : 2 + c.from-end.result ≡ 2 + u16_at bytes 0 = omega arith in
    let small : u16_at bytes 0 < 2 ^ 16 = omega arith in
    text_lent bytes (2 + c.from-end.result) (all_bytes bytes (λ k. omega (
      arith,
      c.type_inv.bytes k,
    ))) is c.if-bytes-end.false small
