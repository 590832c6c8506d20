use Rattle.std.proofs.Common.{◌≡◌, drop}
use Rattle.wasi_calls_rules.specs.Checks.{has_no_newline}
use Rattle.wasi_calls.proofs.streams.is_without_newline.Given as goal

abbrev pub invariant-loop-byte : goal.invariant-loop-byte
invariant-loop-byte l =
    has_no_newline (drop l.byte-index l.bytes) ≡ has_no_newline l.bytes
