use Rattle.std.proofs.Common.{◌≡◌, take}
use Rattle.worker.proofs.story.copying.copy_answers.Given as goal

abbrev pub invariant-loop-answer : goal.invariant-loop-answer
invariant-loop-answer l = l.copies ≡ take l.answer-index l.answers
