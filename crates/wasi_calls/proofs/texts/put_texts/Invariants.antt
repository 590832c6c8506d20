use Rattle.std.proofs.Common.{drop}
use Rattle.wasi_calls.proofs.TextLemmas.{TextsRemain}
use Rattle.wasi_calls.proofs.texts.put_texts.Given as goal

abbrev pub invariant-loop-text : goal.invariant-loop-text
invariant-loop-text l =
    TextsRemain l.texts l.buffer l.fn.memory l.memory (drop l.text-index l.texts) l.begin
