use Rattle.std.proofs.Common.{map}
use Rattle.command_words.proofs.WordLemmas.Meets.{is_never_alone, met_is_taken}
use Rattle.command_words.proofs.command_line.read_words.Goals as goal

pub unreachable-requires : goal.unreachable-requires
unreachable-requires g c =
    absurd (is_never_alone (map g.S.AsStr.text c.cut_words.result.0.now) c.in_ok-matches.matches
    c.in_ok-matches.ensures.0
    c.in_ok-matches.ensures.1 c.in_default.ensures.variant)

pub order_of-requires : goal.order_of-requires
order_of-requires g c =
    met_is_taken (map g.S.AsStr.text c.cut_words.result.0.now) c.in_ok-matches.matches
    c.in_ok-matches.ensures.0 c.in_ok-matches.ensures.1 _ _
    c.in-Some.ensures.name c.in-Some.ensures.rows
