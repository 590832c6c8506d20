use Rattle.std.proofs.Common.{drop}
use Rattle.wasi_calls.proofs.WrittenFiles.{IsPut}
use Rattle.wasi_calls.proofs.host.moving.put_pieces.Given as goal

abbrev pub invariant-loop-buffer : goal.invariant-loop-buffer
invariant-loop-buffer l =
    IsPut l.memory.bytes l.buffers (drop l.buffer-index l.buffer-items) l.node l.from l.place
    l.fn.tree l.tree
