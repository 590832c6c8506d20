use Rattle.std.proofs.Common.{length}
use Rattle.wasm_places.specs.FunctionNames.{InSubsection}
use Rattle.wasm_places.proofs.FunctionNameLemmas.{SectionsSoFar}
use Rattle.wasm_places.proofs.function_names.name_in_subsections.Given as goal

abbrev pub invariant-loop-id : goal.invariant-loop-id
invariant-loop-id l =
    SectionsSoFar (λ name s. InSubsection l.fn.function s name) l.fn.subsections.bytes.now l.rest

abbrev pub decreases-loop-id : goal.decreases-loop-id
decreases-loop-id l = length l.rest
