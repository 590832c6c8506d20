use Rattle.std.proofs.Common.{◌<◌, ◌^◌, arith}
use Rattle.wasi_calls.proofs.host.WasiState.take.Goals as goal

pub overflow_add-from : goal.overflow_add-from
overflow_add-from c =
    let own = (rw c.unwrap-descriptor.ensures at c.descriptor.ensures.is) in
    let low : c.offset-from.result < 2 ^ 63 = omega (arith, c.offset-from.ensures, own.offset) in
    let end = c.read_file-moved.ensures.end low in
    omega (arith, end)

pub move_to-requires-clause-small : goal.move_to-requires-clause-small
move_to-requires-clause-small c =
    let own = (rw c.unwrap-descriptor.ensures at c.descriptor.ensures.is) in
    let low : c.offset-from.result < 2 ^ 63 = omega (arith, c.offset-from.ensures, own.offset) in
    c.read_file-moved.ensures.end low
