use Rattle.machine_slots.proofs.TypedFrames.{slots_words, words_slots}
use Rattle.machine_slots.proofs.laws.words_are_slots.Goals as goal

pub returns-clause-words : goal.returns-clause-words
returns-clause-words c = slots_words

pub returns-clause-slots : goal.returns-clause-slots
returns-clause-slots c = words_slots
