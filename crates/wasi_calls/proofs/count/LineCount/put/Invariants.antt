use Rattle.std.proofs.Common.{◌≡◌, ◌≤◌, ◌+◌, ◌++◌, ℕ, List, drop}
use Rattle.wasi_calls.specs.rules.Outputs.{count_begun}
use Rattle.wasi_calls.proofs.count.LineCount.put.Given as goal

abbrev pub invariant-loop-byte : goal.invariant-loop-byte
invariant-loop-byte l =
    ((rest : List ℕ) → l.self.begun + count_begun l.self.unfinished
    (drop l.byte-index l.bytes ++ rest)
    ≡ l.fn.self.begun + count_begun l.fn.self.unfinished (l.bytes ++ rest))
    × (l.self.begun ≤ l.fn.self.begun + l.byte-index)
