use Rattle.std.proofs.Common.{◌≡◌, ◌++◌, take}
use Rattle.story_commands.proofs.sweeping.giving.push_answers.Given as goal

abbrev pub invariant-loop-answer : goal.invariant-loop-answer
invariant-loop-answer l = l.list ≡ l.fn.list ++ take l.answer-index l.answers
