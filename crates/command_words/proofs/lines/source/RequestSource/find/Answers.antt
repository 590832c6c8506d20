use Rattle.std.proofs.Common.{rules}
use Rattle.command_words.proofs.LineLemmas.Drawing.{draws}
use Rattle.command_words.proofs.lines.source.RequestSource.find.Goals as goal

pub returns-in_ok-answer-in-Random-clause-found :
    goal.returns-in_ok-answer-in-Random-clause-found
returns-in_ok-answer-in-Random-clause-found g c =
    rw c.in-Random.is (draws c.in-Random.length _ _ c.in_ok-answer-in-Random.answer
    c.in_ok-answer-in-Random.ensures.is (search rules) (search rules) (search rules))
