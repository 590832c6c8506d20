use Rattle.std.proofs.Common.{◌≡◌, ◌↔◌, drop}
use Rattle.std.specs.Prelude.{false}
use Rattle.std.specs.List.{AllByRecursion}
use Rattle.wasi_abi.specs.rules.Answers.{IsNoNewline}
use Rattle.wasi_abi.proofs.answer.has_newline.Given as goal

abbrev pub invariant-loop-byte : goal.invariant-loop-byte
invariant-loop-byte l =
    ((l.found ≡ false) × AllByRecursion IsNoNewline (drop l.byte-index l.bytes))
    ↔ AllByRecursion IsNoNewline l.bytes
