use Rattle.wasm_decode.proofs.CodeLemmas.{SoFar}
use Rattle.wasm_decode.proofs.code_faults.collect_faults.Given as goal

abbrev pub invariant-loop-number : goal.invariant-loop-number
invariant-loop-number l = SoFar l.fn.decoder l.number l.decoder l.faults
