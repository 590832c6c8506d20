use Rattle.std.proofs.Common.{◌≡◌, [], drop}
use Rattle.wasi_calls_rules.specs.Checks.{gathered}
use Rattle.wasi_calls_rules.specs.Lines.{cut_all}
use Rattle.wasi_calls.specs.Moves.{AreInside}
use Rattle.wasi_calls.proofs.cut.Cut.of.Given as goal

abbrev pub invariant-loop-buffer : goal.invariant-loop-buffer
invariant-loop-buffer l =
    AreInside l.memory.bytes (drop l.buffer-index l.buffer-items)
    × (cut_all l.stream l.cut (gathered l.memory.bytes (drop l.buffer-index l.buffer-items))
    ≡ cut_all l.stream (record { lines = []; unfinished = l.fn.unfinished })
    (gathered l.memory.bytes l.buffers))
