use Rattle.std.proofs.Common.{◌≡◌, ◌+◌, ◌≤◌, ◌++◌, drop}
use Rattle.std.specs.Prelude.{vec_len, vec_capacity}
use Rattle.wasi_calls_rules.specs.Checks.{gathered}
use Rattle.wasi_calls.specs.Moves.{total_len, AreInside}
use Rattle.wasi_calls.proofs.streams.append.Given as goal

abbrev pub invariant-loop-buffer : goal.invariant-loop-buffer
invariant-loop-buffer l =
    AreInside l.memory.bytes (drop l.buffer-index l.buffer-items)
    × (l.bytes.items ++ gathered l.memory.bytes (drop l.buffer-index l.buffer-items)
    ≡ l.fn.bytes.items ++ gathered l.memory.bytes l.buffers)
    × (vec_len l.bytes + total_len (drop l.buffer-index l.buffer-items) ≤ vec_capacity l.bytes)
