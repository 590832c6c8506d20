use Rattle.std.proofs.Common.{◌≡◌, ◌≤◌, ◌+◌, ◌-◌, ◌*◌, [], length}
use Rattle.wasi_calls_rules.specs.declared.limits.TheConstants.{MOVED_BYTES}
use Rattle.wasi_calls.specs.Moves.{total_len, AreInside}
use Rattle.wasi_calls.proofs.Fronts.{named_on}
use Rattle.wasi_calls.proofs.buffers.BufferRoom.read_iovecs.Given as goal

abbrev pub invariant-loop-place : goal.invariant-loop-place
invariant-loop-place g l =
    (l.iovecs + 8 * l.count ≤ length l.memory.bytes) × (length l.self ≡ l.place)
    × (total_len l.self ≤ MOVED_BYTES) × AreInside l.memory.bytes l.self
    × (named_on l.memory.bytes (l.iovecs + 8 * l.place) (l.count - l.place)
    (MOVED_BYTES - total_len l.self) l.self
    ≡ named_on l.memory.bytes l.iovecs l.count MOVED_BYTES [])
