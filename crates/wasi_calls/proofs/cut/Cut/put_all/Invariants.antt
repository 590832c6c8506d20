use Rattle.std.proofs.Common.{◌≡◌, drop}
use Rattle.wasi_calls_rules.specs.Lines.{cut_all}
use Rattle.wasi_calls.proofs.cut.Cut.put_all.Given as goal

abbrev pub invariant-loop-byte : goal.invariant-loop-byte
invariant-loop-byte l =
    cut_all l.stream l.self (drop l.byte-index l.bytes) ≡ cut_all l.stream l.fn.self l.bytes
