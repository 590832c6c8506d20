use Rattle.std.proofs.Common.{drop}
use Rattle.wasi_calls.proofs.TextLemmas.{PointersRemain}
use Rattle.wasi_calls.proofs.texts.put_pointers.Given as goal

abbrev pub invariant-loop-text : goal.invariant-loop-text
invariant-loop-text l =
    PointersRemain l.texts l.array l.buffer l.fn.memory l.memory (drop l.text-index l.texts)
    l.offset l.begin
