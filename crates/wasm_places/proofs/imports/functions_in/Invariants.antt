use Rattle.wasm_places.proofs.ImportLemmas.{ImportsSoFar}
use Rattle.wasm_places.proofs.imports.functions_in.Given as goal

abbrev pub invariant-loop : goal.invariant-loop
invariant-loop l =
    ImportsSoFar l.fn.section.bytes.now l.count l.counter l.functions l.rest
