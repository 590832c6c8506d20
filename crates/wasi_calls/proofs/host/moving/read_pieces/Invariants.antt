use Rattle.std.proofs.Common.{◌≡◌, ◌≤◌, drop, length}
use Rattle.file_tree.specs.rules.Files.{bytes_of_node}
use Rattle.wasi_calls.proofs.Pieces.{IsMoved}
use Rattle.wasi_calls.proofs.host.moving.read_pieces.Given as goal

abbrev pub invariant-loop-buffer : goal.invariant-loop-buffer
invariant-loop-buffer l =
    IsMoved l.fn.memory.bytes l.memory.bytes l.buffers (drop l.buffer-index l.buffer-items)
    (drop l.from (bytes_of_node l.tree l.node)) l.moved
    × (l.memory.limit ≡ l.fn.memory.limit)
    × (l.moved ≤ length (drop l.from (bytes_of_node l.tree l.node)))
