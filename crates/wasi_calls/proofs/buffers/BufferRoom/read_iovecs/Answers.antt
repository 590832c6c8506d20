use Rattle.std.proofs.Common.{◌≡◌, ◌+◌, ◌-◌, ◌*◌, min, [], ◌∷◌, ◌++◌, arith, length-append}
use Rattle.wasi_calls_rules.specs.Checks.{Buffer}
use Rattle.wasi_calls_rules.specs.declared.limits.TheConstants.{MOVED_BYTES}
use Rattle.guest_memory.proofs.Lists.{all_both}
use Rattle.wasi_calls.specs.Moves.{total_len}
use Rattle.wasi_calls.proofs.Fronts.{named_on, buffer_at, total_both, named_next}
use Rattle.wasi_calls.proofs.buffers.BufferRoom.read_iovecs.Goals as goal

pub loop-place-preserved : goal.loop-place-preserved
loop-place-preserved g c =
    let m = c.args.memory.now.bytes in
    let front = c.loop-place.self in
    let at = c.args.iovecs + 8 * c.loop-place.place in
    let room = MOVED_BYTES - total_len front in
    let b : Buffer = buffer_at m at in
    let more : Buffer = record { from = b.from; len = min room b.len } in
    let is : c.push.new.self ≡ front ++ more ∷ [] =
    rw c.in_ok-from_iovec.ensures.is at c.push.ensures in
    let few = c.loop-place.invariant.2 in
    let own = (rw c.in_ok-from_iovec.ensures.is at c.in_ok-from_iovec.ensures.inside) in
    let size : total_len (front ++ more ∷ []) ≡ total_len front + total_len (more ∷ []) =
    total_both front (more ∷ []) in
    let room_left : MOVED_BYTES - total_len (front ++ more ∷ []) ≡ room - b.len =
    omega (arith, size, few) in
    rw is (
      c.loop-place.invariant.0,
      omega (arith, c.loop-place.invariant.1, length-append front (more ∷ [])),
      omega (arith, size, few),
      all_both _ front (more ∷ []) c.loop-place.invariant.3 (omega (arith, own), tt),
      named_next m c.args.iovecs c.args.count c.loop-place.place c.loop-place-test.true room
          (MOVED_BYTES - total_len (front ++ more ∷ [])) front
          (named_on m c.args.iovecs c.args.count MOVED_BYTES []) tt c.in_ok-from_iovec.ensures.gives
          room_left c.loop-place.invariant.4,
    )
