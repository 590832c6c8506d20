use Rattle.wasm_places.proofs.EntryLemmas.{EntriesSoFar}
use Rattle.wasm_places.proofs.entries.entry_around.Given as goal

abbrev pub invariant-loop-number : goal.invariant-loop-number
invariant-loop-number l =
    EntriesSoFar l.fn.entries l.fn.section.bytes.now l.fn.left l.count l.number l.rest
