use Rattle.std.proofs.Common.{◌≡◌, ◌≤◌, drop, length}
use Rattle.wasi_calls.proofs.Pieces.{IsMoved}
use Rattle.wasi_calls.proofs.host.moving.scatter.Given as goal

abbrev pub invariant-loop-buffer : goal.invariant-loop-buffer
invariant-loop-buffer l =
    IsMoved l.fn.memory.bytes l.memory.bytes l.buffers (drop l.buffer-index l.buffer-items)
    l.bytes l.moved
    × (l.memory.limit ≡ l.fn.memory.limit) × (l.moved ≤ length l.bytes)
