use Rattle.state_image.proofs.RestoreLemmas.Loaded.{PutsPlaces}
use Rattle.state_image.proofs.restoring.machine_state.load_places.Given as goal

abbrev pub invariant-loop : goal.invariant-loop
invariant-loop l = PutsPlaces l.counter l.fn.machine l.machine l.fn.reader l.reader
