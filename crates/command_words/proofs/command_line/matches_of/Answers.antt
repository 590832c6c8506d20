use Rattle.std.proofs.Common.{subst, sym}
use Rattle.std.specs.Prelude.{map}
use Rattle.std.proofs.lemmas.Result.{err_from_is_err_and}
use Rattle.command_words.specs.rules.Commands.{IsParse}
use Rattle.command_words.proofs.WordLemmas.Meets.{parse_of, told_fault}
use Rattle.command_words.proofs.command_line.matches_of.Goals as goal

pub returns-in_err-matches : goal.returns-in_err-matches
returns-in_err-matches g c =
    let p = err_from_is_err_and c.from_residual-in_err-matches.result
    c.from_residual-in_err-matches.ensures.1 in
    subst (IsParse (map g.S.AsStr.text c.args.words.now)) (sym p.1)
    (told_fault _ _ _ p.0 c.in_ok-command.ensures.0 c.in_err-matches.ensures.kinds
    c.in_err-matches.ensures.passes p.2)

pub returns : goal.returns
returns g c =
    parse_of (map g.S.AsStr.text c.args.words.now) _ c.in_ok-matches.matches
    c.in_ok-command.ensures.0 c.in_ok-matches.ensures.kinds c.in_ok-matches.ensures.matches
