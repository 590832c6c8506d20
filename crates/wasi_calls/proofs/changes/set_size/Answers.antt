use Rattle.std.proofs.Common.{refl}
use Rattle.wasi_calls.proofs.changes.set_size.Goals as goal

pub returns-clause-done : goal.returns-clause-done
returns-clause-done c =
    λ m. rw (
      c.in_ok-descriptor.ensures.gives,
      c.in_ok-node.ensures.gives,
      c.in_ok-check_right.ensures.gives,
      c.in_ok-node.ensures.node,
      c.in_ok-check_room.ensures.gives,
      c.in_ok-resize.ensures.resized,
    ) refl
