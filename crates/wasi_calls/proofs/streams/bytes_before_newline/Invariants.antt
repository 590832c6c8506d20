use Rattle.std.proofs.Common.{◌≡◌, ◌≤◌, ◌+◌, drop}
use Rattle.std.specs.List.{prefix_len}
use Rattle.wasi_calls_rules.specs.Checks.{gathered}
use Rattle.wasi_calls_rules.specs.declared.limits.TheConstants.{MOVED_BYTES}
use Rattle.wasi_calls.specs.Moves.{total_len, AreInside}
use Rattle.wasi_calls.proofs.Endings.{is_text}
use Rattle.wasi_calls.proofs.streams.bytes_before_newline.Given as goal

abbrev pub invariant-loop-buffer : goal.invariant-loop-buffer
invariant-loop-buffer l =
    AreInside l.memory.bytes (drop l.buffer-index l.buffer-items)
    × (l.before + prefix_len is_text
    (gathered l.memory.bytes (drop l.buffer-index l.buffer-items))
    ≡ prefix_len is_text (gathered l.memory.bytes l.buffers))
    × (l.before + total_len (drop l.buffer-index l.buffer-items) ≤ MOVED_BYTES)
