use Rattle.std.proofs.Common.{◌≡◌, ◌+◌, ◌≤◌, drop}
use Rattle.wasi_calls_rules.specs.Checks.{gathered}
use Rattle.wasi_calls_rules.specs.declared.limits.TheConstants.{MOVED_BYTES}
use Rattle.wasi_calls.specs.rules.Outputs.{count_begun}
use Rattle.wasi_calls.specs.Moves.{total_len, AreInside}
use Rattle.wasi_calls.proofs.count.count_begun.Given as goal

abbrev pub invariant-loop-buffer : goal.invariant-loop-buffer
invariant-loop-buffer l =
    AreInside l.memory.bytes (drop l.buffer-index l.buffer-items)
    × (l.lines.begun + count_begun l.lines.unfinished
    (gathered l.memory.bytes (drop l.buffer-index l.buffer-items))
    ≡ count_begun l.fn.unfinished (gathered l.memory.bytes l.buffers))
    × (l.lines.begun + total_len (drop l.buffer-index l.buffer-items) ≤ MOVED_BYTES)
