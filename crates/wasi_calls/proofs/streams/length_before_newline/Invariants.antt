use Rattle.std.proofs.Common.{◌≡◌, ◌+◌, drop}
use Rattle.std.specs.List.{prefix_len}
use Rattle.wasi_calls.proofs.Endings.{is_text}
use Rattle.wasi_calls.proofs.streams.length_before_newline.Given as goal

abbrev pub invariant-loop-byte : goal.invariant-loop-byte
invariant-loop-byte l =
    (l.before ≡ l.byte-index)
    × (l.before + prefix_len is_text (drop l.byte-index l.bytes) ≡ prefix_len is_text l.bytes)
