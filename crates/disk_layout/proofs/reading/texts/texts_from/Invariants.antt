use Rattle.disk_layout.proofs.ReadingLemmas.SpellingLemmas.{AreRead}
use Rattle.disk_layout.proofs.reading.texts.texts_from.Given as goal

abbrev pub invariant-loop : goal.invariant-loop
invariant-loop l = AreRead l.bytes l.count l.counter l.texts.items l.rest
