use Rattle.std.proofs.Common.{length}
use Rattle.wasm_places.proofs.AllSectionLemmas.{AllSoFar}
use Rattle.wasm_places.proofs.sections.function_sections.Given as goal

abbrev pub invariant-loop-rest : goal.invariant-loop-rest
invariant-loop-rest l = AllSoFar l.fn.module l.imports l.function_types l.rest

abbrev pub decreases-loop-rest : goal.decreases-loop-rest
decreases-loop-rest l = length l.rest
