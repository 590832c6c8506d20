use Rattle.std.proofs.Common.{◌<◌, ◌-◌, ◌^◌, arith}
use Rattle.wasm_decode.proofs.ItemLemmas.Powers.{seven_more, wide}
use Rattle.wasm_places.proofs.reader.Reader.+read_unsigned.Goals as goal

pub overflow_mul-result : goal.overflow_mul-result
overflow_mul-result t c =
    omega (arith, wide c.args.bits c.in_ok-high.high c.requires c.in_ok-high.ensures.fits)

pub overflow_add-result : goal.overflow_add-result
overflow_add-result t c =
    omega (
      arith,
      c.from-2.ensures,
      wide c.args.bits c.in_ok-high.high c.requires c.in_ok-high.ensures.fits,
    )

pub returns-clause-fits : goal.returns-clause-fits
returns-clause-fits t c =
    let high = c.in_ok-high.high in
    let below : high < 2 ^ (c.args.bits - 7) = c.in_ok-high.ensures.fits in
    omega (
      arith,
      c.from-2.ensures,
      seven_more c.args.bits high c.in_ok-byte.byte (omega arith) below (omega arith),
    )
