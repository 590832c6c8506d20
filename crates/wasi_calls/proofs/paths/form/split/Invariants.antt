use Rattle.wasi_calls.proofs.Parts.{HasNoSlash}
use Rattle.wasi_calls.proofs.paths.form.split.Given as goal

abbrev pub invariant-loop-index : goal.invariant-loop-index
invariant-loop-index l = HasNoSlash l.index l.bytes
