use Rattle.std.proofs.Common.{ap, ◌∙◌, arith}
use Rattle.wasi_calls.specs.Moves.{total_len}
use Rattle.wasi_calls.proofs.Fronts.{total_both}
use Rattle.wasi_calls.proofs.buffers.BufferRoom.push.Goals as goal

pub invariant_of-self : goal.invariant_of-self
invariant_of-self g c =
    let s = c.self.inside in
    let was = c.self.invariant.0 in
    let few = c.self.invariant.1 in
    let cut = c.at_most-len.ensures in
    let is = ap total_len c.push.ensures.items ∙ total_both s.items.items _ in (
      omega (arith, was, is),
      omega (arith, cut, few),
    )
