use Rattle.wasm_places.proofs.UseLemmas.{SearchedSoFar}
use Rattle.wasm_places.proofs.uses.search_section.Given as goal

abbrev pub invariant-loop : goal.invariant-loop
invariant-loop l =
    SearchedSoFar l.fn.declaring l.fn.section.bytes.now l.fn.wanted l.fn.before l.count l.counter
    l.search l.rest
