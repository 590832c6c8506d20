use Rattle.std.proofs.Common.{length}
use Rattle.std.proofs.lemmas.Bool.{false≢true}
use Rattle.command_words.proofs.LineLemmas.Requests.{seam_inside, seam_is_space, first_parts}
use Rattle.command_words.proofs.lines.request.split_at_space.Goals as goal

pub returns-in_err-space-clause-found : goal.returns-in_err-space-clause-found
returns-in_err-space-clause-found c = λ front back is _.
    absurd (false≢true (c.in_err-space.ensures.none (length front) (seam_inside _ front back is)
    (seam_is_space _ front back is)))

pub returns-clause-found : goal.returns-clause-found
returns-clause-found c = λ front back is none.
    first_parts _ front back is none c.in_ok-space.space c.in_ok-space.ensures.there.1
    c.in_ok-space.ensures.first
