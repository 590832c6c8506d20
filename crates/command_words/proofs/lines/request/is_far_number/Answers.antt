use Rattle.std.proofs.Common.{◌∙◌, sym}
use Rattle.std.proofs.lemmas.Option.{none-some}
use Rattle.command_words.proofs.LineLemmas.Far.{from_1}
use Rattle.command_words.proofs.lines.request.is_far_number.Goals as goal

pub returns-in-None : goal.returns-in-None
returns-in-None c = (
  λ yes. let numeral = sym c.is_numeral.ensures ∙ yes in (
    numeral,
    λ n small is. none-some n (sym c.in-None.is
        ∙ c.read_number.ensures.found n (from_1 _ numeral n is) small is),
  ),
  λ far. c.is_numeral.ensures ∙ far.0,
)
