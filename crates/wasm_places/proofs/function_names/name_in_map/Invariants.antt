use Rattle.wasm_places.proofs.FunctionNameLemmas.{NamesSoFar}
use Rattle.wasm_places.proofs.function_names.name_in_map.Given as goal

abbrev pub invariant-loop : goal.invariant-loop
invariant-loop l = NamesSoFar l.fn.map.bytes.now l.fn.function l.count l.counter l.rest
