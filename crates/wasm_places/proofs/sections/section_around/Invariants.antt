use Rattle.std.proofs.Common.{length}
use Rattle.wasm_places.proofs.SectionLemmas.{SectionsSoFar}
use Rattle.wasm_places.proofs.sections.section_around.Given as goal

abbrev pub invariant-loop-id : goal.invariant-loop-id
invariant-loop-id l = SectionsSoFar l.fn.module l.fn.at l.left l.imports l.rest

abbrev pub decreases-loop-id : goal.decreases-loop-id
decreases-loop-id l = length l.rest
